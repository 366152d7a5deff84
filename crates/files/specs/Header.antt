-- The fields of files: the count of contacts, which all begin with, and fields of whole parts.
use Rattle.std.specs.Prelude.{ℕ, ◌/◌, ◌%◌, Bool, ◌&&◌, cond, Option, Some, None, List, [], ◌∷◌, eqb, length, get_or}
use Rattle.fields.specs.Fields.{Item, value_in}
use Rattle.fields.specs.Refusals.{between}

-- 2. Is the first field tag 1, length 1, value 1 to 12? It then is the count of contacts. No: 2.
unfoldable pub contacts_in : List Item → Option ℕ
contacts_in [] = None
contacts_in (i ∷ is) =
    let n = get_or i.value 0 0 in
    cond (eqb i.tag 1 && eqb (length i.value) 1 && between 1 n 12) (Some n) None

abbrev pub contacts_number : Option ℕ → ℕ
contacts_number (Some n) = 0
contacts_number None = 2

-- The number in the first field.
abbrev pub contacts_of : List Item → ℕ
contacts_of is = get_or (value_in is 0) 0 0

-- A field of a tag whose value is so many whole parts of a size.
abbrev pub has_parts : ℕ → ℕ → ℕ → ℕ → Item → Bool
has_parts tag size least most i =
    eqb i.tag tag && eqb (length i.value % size) 0 && between least (length i.value / size) most
