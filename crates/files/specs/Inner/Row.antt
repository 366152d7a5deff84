-- What a walk of a file takes: the field at a place, and the first four fields.
use Rattle.std.specs.Prelude.{ℕ, ◌≡◌, List, [], Bool, true, false, ◌&&◌, Option, Some, None, leb, eqb, length, drop}
use Rattle.fields.specs.declared.Field.{Field}
use Rattle.fields.specs.Fields.{Item, Fields, before, item_of, item_in, fields_from, fields_of}
use Rattle.fields.specs.Refusals.{framing_number}
use Rattle.files.specs.declared.row.Row.{Row}

-- A whole file of at most so many fields.
abbrev pub ends_within : ℕ → Fields → Bool
ends_within k fs = eqb (framing_number fs.framing) 0 && leb (length fs.items) k

-- The fields past so many of them.
abbrev pub behind : ℕ → Fields → Fields
behind k fs = record { items = drop k fs.items; framing = fs.framing }

-- The field at a place and those past it, or that there is none.
abbrev pub Takes : List ℕ → ℕ → Option (Field × ℕ) → Type 0
Takes file at None = (fields_from file at).items ≡ []
Takes file at (Some (f, past)) = fields_from file at ≡ before (item_of file f) (fields_from file past)

abbrev pub is_some : {A : Type 0} → Option A → Bool
is_some None = false
is_some (Some a) = true

-- What a field says, if there is one; else tag 0 and nothing.
abbrev pub item_by : List ℕ → Option Field → Item
item_by file None = record { tag = 0; value = [] }
item_by file (Some f) = item_of file f

-- The field at a place, if there is one, and the place past it, or that place itself.
pub record Follows (file : List ℕ) (at : ℕ) (f : Option Field) (next : ℕ) : Type 0 where
  pub found : is_some f ≡ leb 1 (length (fields_from file at).items)
  pub field : item_by file f ≡ item_in (fields_from file at).items 0
  pub past : fields_from file next ≡ behind 1 (fields_from file at)

pub record Opens (file : List ℕ) (r : Row) : Type 0 where
  pub first : item_by file r.first ≡ item_in (fields_of file).items 0
  pub second : item_by file r.second ≡ item_in (fields_of file).items 1
  pub third : item_by file r.third ≡ item_in (fields_of file).items 2
  pub fourth : item_by file r.fourth ≡ item_in (fields_of file).items 3
  pub four : is_some r.fourth ≡ leb 4 (length (fields_of file).items)
  pub ends : r.ends ≡ ends_within 4 (fields_of file)
