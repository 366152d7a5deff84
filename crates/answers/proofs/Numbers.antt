-- The table's questions have the numbers 1 to 7.
use Prim.Native.Nat.{ℕ, zero, suc, ◌≤◌}
use native.Mathlib.Omega.{arith}
use mathlib.Core.List.{List, [], ◌∷◌}
use lib.ListN.{drop}
use Rattle.std.specs.Prelude.{Option, Some, None}
use Rattle.fields.specs.declared.Framing.{Framing}
use Rattle.fields.specs.declared.Framing.TheVariants.{Whole, Broken}
use Rattle.fields.specs.Fields.{fields_of}
use Rattle.fields.specs.Refusals.{framing_number, first_no}
use Rattle.files.specs.Header.{contacts_in, contacts_of, contacts_number}
use Rattle.diagram.specs.declared.sound.Range.{Range}
use Rattle.diagram.specs.declared.sound.Range.TheVariants.{Within, Outside}
use Rattle.diagram.specs.declared.sound.Numbering.{Numbering}
use Rattle.diagram.specs.declared.sound.Numbering.TheVariants.{InTurn, OutOfTurn}
use Rattle.diagram.specs.Questions.{range_of, numbering_of}
use Rattle.twins.specs.Twins.{twins_of}
use Rattle.twins.specs.declared.Pair.{Pair}
use Rattle.table.specs.declared.fit.Levels.{Levels}
use Rattle.table.specs.declared.fit.Levels.TheVariants.{Given, Lacking}
use Rattle.table.specs.Table.{outputs_number, outputs_in, levels_number, levels_in, range_number, twins_number, numbering_number, diagram_in}
use Rattle.table.specs.Table.{fields_refusal, diagram_refusal, table_refusal}

first-most : (b k : ℕ) (ks : List ℕ) → k ≤ b → first_no ks ≤ b → first_no (k ∷ ks) ≤ b
unfolding first_no
first-most b zero ks h rest = rest
first-most b (suc k) ks h rest = h

none-most : (b : ℕ) → first_no [] ≤ b
unfolding first_no
none-most b = omega arith

framing : (f : Framing) → framing_number f ≤ 7
framing Whole = omega arith
framing Broken = omega arith

contacts : (c : Option ℕ) → contacts_number c ≤ 7
contacts (Some n) = omega arith
contacts None = omega arith

outputs : (o : Option ℕ) → outputs_number o ≤ 7
outputs (Some m) = omega arith
outputs None = omega arith

levels : (l : Levels) → levels_number l ≤ 7
levels Given = omega arith
levels Lacking = omega arith

range : (r : Range) → range_number r ≤ 7
range Within = omega arith
range Outside = omega arith

twins : (t : Option Pair) → twins_number t ≤ 7
twins None = omega arith
twins (Some p) = omega arith

numbering : (n : Numbering) → numbering_number n ≤ 7
numbering InTurn = omega arith
numbering OutOfTurn = omega arith

pub table-numbers : (table : List ℕ) → table_refusal table ≤ 7
unfolding table_refusal fields_refusal diagram_refusal
table-numbers table =
    let is = (fields_of table).items in
    let d = diagram_in table in
    let on-fields = first-most 7 _ _ (framing (fields_of table).framing)
    (first-most 7 _ _ (contacts (contacts_in is))
    (first-most 7 _ _ (outputs (outputs_in (drop 1 is)))
    (first-most 7 _ _ (levels (levels_in (contacts_of is) (drop 2 is))) (none-most 7)))) in
    let on-diagram = first-most 7 _ _ (range (range_of d))
    (first-most 7 _ _ (twins (twins_of d)) (first-most 7 _ _ (numbering (numbering_of d)) (none-most 7))) in
    first-most 7 _ _ on-fields (first-most 7 _ _ on-diagram (none-most 7))
