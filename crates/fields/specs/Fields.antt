-- Files as rows of fields: one tag byte, two length bytes (high byte first), the value.
use Rattle.std.specs.Prelude.{ℕ, zero, suc, ◌+◌, ◌*◌, ◌/◌, ◌%◌, ◌<◌, Bool, cond, List, [], ◌∷◌, ◌++◌, leb, length, get_or, take, drop}
use Rattle.fields.specs.declared.Field.{Field}
use Rattle.fields.specs.declared.Step.{Step}
use Rattle.fields.specs.declared.Step.TheVariants.{Next, End, Cut}
use Rattle.fields.specs.declared.Framing.{Framing}
use Rattle.fields.specs.declared.Framing.TheVariants.{Whole, Broken}

-- Every element of a list is a byte.
abbrev pub Bytes : List ℕ → Type 0
Bytes l = (i : ℕ) → get_or l i 0 < 256

-- A two-byte number, its high byte first.
abbrev pub number_of : ℕ → ℕ → ℕ
number_of high low = high * 256 + low

-- The field whose tag byte stands at a place.
abbrev pub field_at : List ℕ → ℕ → Field
field_at file at =
    record { tag = get_or file at 0; start = at + 3; len = number_of (get_or file (at + 1) 0) (get_or file (at + 2) 0) }

-- The place past a field.
abbrev pub past : Field → ℕ
past f = f.start + f.len

-- What stands at a place: nothing, at the end; a field that fits, and the cursor past it; or a field cut short.
unfoldable pub raw_step_at : List ℕ → ℕ → Step
raw_step_at file at =
    let f = field_at file at in
    cond (leb (length file) at) End (cond (leb (past f) (length file)) (Next f (record { at = past f })) Cut)

-- A field's value: its part of the file.
unfoldable pub value_of : List ℕ → Field → List ℕ
value_of file f = take f.len (drop f.start file)

-- What a field says: its tag and its value.
pub record Item : Type 0 where
  pub tag : ℕ
  pub value : List ℕ

-- The fields of a file: those that stand whole, in sequence, and whether they take up all of it.
pub record Fields : Type 0 where
  pub items : List Item
  pub framing : Framing

abbrev pub item_of : List ℕ → Field → Item
item_of file f = record { tag = f.tag; value = value_of file f }

-- One field before others.
abbrev pub before : Item → Fields → Fields
before i fs = record { items = i ∷ fs.items; framing = fs.framing }

-- The fields that a step leads to, given those from each place on.
abbrev pub fields_after : List ℕ → (ℕ → Fields) → Step → Fields
fields_after file from (Next f c) = before (item_of file f) (from c.at)
fields_after file from End = record { items = []; framing = Whole }
fields_after file from Cut = record { items = []; framing = Broken }

-- All fields from a place on, notes among them, in at most so many steps.
unfoldable pub raw_fields_within : ℕ → List ℕ → ℕ → Fields
raw_fields_within zero file at = record { items = []; framing = Broken }
raw_fields_within (suc steps) file at = fields_after file (raw_fields_within steps file) (raw_step_at file at)

-- A step goes forward, so a file has fewer steps than bytes and one more.
unfoldable pub raw_fields_from : List ℕ → ℕ → Fields
raw_fields_from file at = raw_fields_within (suc (length file)) file at

-- A note: a field with a tag of 128 to 255.
abbrev pub is_note : ℕ → Bool
is_note tag = leb 128 tag

-- The fields that are none.
unfoldable pub but_notes : List Item → List Item
but_notes [] = []
but_notes (i ∷ is) = cond (is_note i.tag) (but_notes is) (i ∷ but_notes is)

-- The fields that are read: all but the notes. A note that is cut short breaks the file, too.
unfoldable pub fields_from : List ℕ → ℕ → Fields
fields_from file at = record { items = but_notes (raw_fields_from file at).items; framing = (raw_fields_from file at).framing }

unfoldable pub fields_of : List ℕ → Fields
fields_of file = fields_from file 0

-- The field at place k, and its value; where there is none, tag 0 and nothing.
abbrev pub item_in : List Item → ℕ → Item
item_in is k = get_or is k (record { tag = 0; value = [] })

abbrev pub value_in : List Item → ℕ → List ℕ
value_in is k = (item_in is k).value

-- The bytes of a field, and of a row of them.
abbrev pub field_bytes : Item → List ℕ
field_bytes i = i.tag ∷ length i.value / 256 ∷ length i.value % 256 ∷ i.value

unfoldable pub encoded : List Item → List ℕ
encoded [] = []
encoded (i ∷ is) = field_bytes i ++ encoded is

-- A file without its notes.
abbrev pub without_notes : List ℕ → List ℕ
without_notes file = encoded (fields_of file).items
