-- The number of the first question that fails, by the answers.
use Prim.Native.Nat.{ℕ}
use mathlib.Core.Path.{◌≡◌}
use mathlib.Core.List.{List, [], ◌∷◌}
use lib.ListN.{drop}
use Rattle.std.specs.Prelude.{Option}
use Rattle.fields.specs.declared.Framing.{Framing}
use Rattle.fields.specs.Fields.{fields_of}
use Rattle.fields.specs.Refusals.{framing_number, first_no}
use Rattle.files.specs.Header.{contacts_of, contacts_in, contacts_number}
use Rattle.diagram.specs.declared.Diagram.{Diagram}
use Rattle.table.specs.declared.fit.Levels.{Levels}
use Rattle.diagram.specs.declared.sound.Range.{Range}
use Rattle.diagram.specs.declared.sound.Numbering.{Numbering}
use Rattle.diagram.specs.Questions.{range_of, numbering_of}
use Rattle.twins.specs.declared.Pair.{Pair}
use Rattle.twins.specs.Twins.{twins_of}
use Rattle.table.specs.Table.{outputs_in, outputs_number, levels_in, levels_number, range_number, twins_number, numbering_number, fields_refusal, diagram_refusal}

pub fields-by : (file : List ℕ) (a : Framing) (b c : Option ℕ) (e : Levels) →
    let is = (fields_of file).items in
    (fields_of file).framing ≡ a → contacts_in is ≡ b → outputs_in (drop 1 is) ≡ c → levels_in (contacts_of is) (drop 2 is) ≡ e →
    first_no (framing_number a ∷ contacts_number b ∷ outputs_number c ∷ levels_number e ∷ []) ≡ fields_refusal file
unfolding fields_refusal
fields-by file a b c e p q r s = cc

pub diagram-by : (d : Diagram) (a : Range) (b : Option Pair) (c : Numbering) → range_of d ≡ a → twins_of d ≡ b → numbering_of d ≡ c →
    first_no (range_number a ∷ twins_number b ∷ numbering_number c ∷ []) ≡ diagram_refusal d
unfolding diagram_refusal
diagram-by d a b c p q r = cc
