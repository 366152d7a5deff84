-- The number in a field of one byte.
use Rattle.std.specs.Prelude.{ℕ, ◌&&◌, cond, Option, Some, None, eqb, length, get_or}
use Rattle.fields.specs.Fields.{Item}
use Rattle.fields.specs.Refusals.{between}

-- The number in a field of a tag and one byte, if it is from 1 to the most.
abbrev pub number_of_one : ℕ → ℕ → Item → Option ℕ
number_of_one tag most i =
    let n = get_or i.value 0 0 in
    cond (eqb i.tag tag && eqb (length i.value) 1 && between 1 n most) (Some n) None
