-- Where rows stand on a sheet, and which sign stands at a place of a number.
use Rattle.std.specs.Prelude.{ℕ, ◌+◌, ◌-◌, ◌*◌, ◌/◌, ◌%◌, cond, List, ◌++◌, ltb, length}
use Prim.Native.Char.{code}
use Rattle.wiring.specs.declared.parts.Parts.{Parts}
use Rattle.sheet.specs.declared.row.Kind.{Kind}
use Rattle.sheet.specs.Sheet.{ascii, standing_left, kind_text}

-- How many rows a netlist's sheet has.
abbrev pub rows_by : Parts → ℕ
rows_by p = length p.gates.now / 5 + (length p.outputs.now / 4 + length p.lamp.now / 4)

-- Where a sheet of k rows ends, and where the next row stands, below its heading if there is one.
abbrev pub end_of : ℕ → ℕ
end_of k = 22 * (1 + k + (k - 1) / 50)

abbrev pub place_of : ℕ → ℕ
place_of k = 22 * (1 + k + k / 50)

-- The digit at the place of a power of ten, or a blank before the first digit.
abbrev pub sign_at : ℕ → ℕ → ℕ
sign_at power x = cond (ltb x power) (code " ") (code "0" + x / power % 10)

-- A kind and the blank behind it.
abbrev pub kind_column : Kind → List ℕ
kind_column kind = standing_left 3 (kind_text kind) ++ ascii " "
