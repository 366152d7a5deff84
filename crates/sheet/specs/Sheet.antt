-- The gate sheet, a netlist's listing for print: a row of 21 characters and a line feed for each gate, each output and the lamp,
-- under headings.
use Rattle.std.specs.Prelude.{ℕ, zero, suc, ◌+◌, ◌-◌, ◌/◌, ◌%◌, ◌&&◌, cond, List, [], ◌∷◌, ◌++◌, eqb, ltb, length, replicate}
use Prim.Native.Char.{code}
use Prim.Native.String.{String, [] as end, ◌∷◌ as ◌then◌}
use Rattle.netlist.specs.declared.Gate.{Gate}
use Rattle.netlist.specs.declared.Pair.{Pair}
use Rattle.netlist.specs.Netlist.{Netlist, gate_line}
use Rattle.sheet.specs.declared.row.Kind.{Kind}
use Rattle.sheet.specs.declared.row.Kind.TheVariants.{And, Or, Out, Lamp}
use Rattle.sheet.specs.declared.row.Row.{Row}

-- The ASCII codes of a text.
abbrev pub ascii : String → List ℕ
ascii end = []
ascii (c then text) = code c ∷ ascii text

-- A text in so many characters: standing right, with blanks before it, or left, with blanks behind it.
abbrev pub standing_right : ℕ → List ℕ → List ℕ
standing_right width text = replicate (width - length text) (code " ") ++ text

abbrev pub standing_left : ℕ → List ℕ → List ℕ
standing_left width text = text ++ replicate (width - length text) (code " ")

-- A number's decimal digits, the last so many of them.
unfoldable pub decimal : ℕ → ℕ → List ℕ
decimal zero x = []
decimal (suc digits) x = cond (ltb x 10) [] (decimal digits (x / 10)) ++ ((code "0" + x % 10) ∷ [])

unfoldable pub in_five : ℕ → List ℕ
in_five x = standing_right 5 (decimal 5 x)

abbrev pub kind_text : Kind → List ℕ
kind_text And = ascii "AND"
kind_text Or = ascii "OR"
kind_text Out = ascii "OUT"
kind_text Lamp = ascii "LMP"

-- A row: number in 5, blank, kind in 3, blank, first source in 5, blank, second in 5, and a line feed.
unfoldable pub row_text : Row → List ℕ
row_text r =
    in_five r.number ++ ascii " " ++ standing_left 3 (kind_text r.kind) ++ ascii " "
    ++ in_five r.first ++ ascii " " ++ in_five r.second ++ ascii "\n"

abbrev pub heading : List ℕ
heading = ascii " LINE KIN     A     B\n"

-- A gate's row gives its line, AND or OR, and its sources; an output's row its number, OUT, its true line and its false line; the
-- lamp's row the same with LMP.
abbrev pub kind_of : ℕ → Kind
kind_of kind = cond (eqb kind 0) And Or

abbrev pub gate_row : ℕ → Gate → Row
gate_row line g = record { number = line; kind = kind_of g.kind; first = g.left; second = g.right }

abbrev pub pair_row : Kind → ℕ → Pair → Row
pair_row kind j p = record { number = j; kind = kind; first = p.on; second = p.off }

abbrev pub output_row : ℕ → Pair → Row
output_row = pair_row Out

abbrev pub lamp_row : ℕ → Pair → Row
lamp_row = pair_row Lamp

-- The rows of elements that are numbered from k on.
unfoldable pub numbered_rows : {A : Type 0} → (ℕ → A → Row) → ℕ → List A → List Row
numbered_rows row k [] = []
numbered_rows row k (x ∷ xs) = row k x ∷ numbered_rows row (suc k) xs

-- The gates' rows, the outputs', and last the lamp's, numbered 0.
abbrev pub rows_of : Netlist → List Row
rows_of net =
    numbered_rows gate_row (gate_line net.contacts) net.gates ++ numbered_rows output_row 0 net.pairs
    ++ numbered_rows lamp_row 0 net.lamp

-- The heading above the row that k rows stand before, if there is one: above row 51, row 101 and so on.
abbrev pub heading_after : ℕ → List ℕ
heading_after k = cond (ltb 0 k && eqb (k % 50) 0) heading []

-- Rows that k rows stand before.
unfoldable pub rows_from : ℕ → List Row → List ℕ
rows_from k [] = []
rows_from k (r ∷ rs) = heading_after k ++ row_text r ++ rows_from (suc k) rs

-- The heading precedes row 1, row 51, row 101 and so on. The first stands there even if no row follows.
unfoldable pub sheet_of : Netlist → List ℕ
sheet_of net = heading ++ rows_from 0 (rows_of net)
