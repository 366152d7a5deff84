-- What an accepted table file is: its shape, and that its diagram passes questions 5 to 7.
use Prim.Native.Nat.{ℕ}
use native.Mathlib.Omega.{arith}
use mathlib.Core.Path.{◌≡◌, refl}
use mathlib.Core.Bool.{Bool, true, false, cond}
use mathlib.Core.List.{List, [], ◌∷◌}
use lib.ListN.{drop}
use Rattle.std.specs.Prelude.{Some, None}
use Rattle.fields.specs.declared.Framing.TheVariants.{Whole}
use Rattle.fields.specs.Fields.{fields_of}
use Rattle.fields.specs.Refusals.{first_no}
use Rattle.fields.proofs.Refusals.{first-yes}
use Rattle.files.specs.Header.{contacts_in}
use Rattle.diagram.specs.declared.Diagram.{Diagram}
use Rattle.diagram.specs.declared.sound.Range.TheVariants.{Within, Outside}
use Rattle.diagram.specs.declared.sound.Numbering.TheVariants.{InTurn, OutOfTurn}
use Rattle.diagram.specs.Questions.{Sized, in_range, distinct, numbered}
use Rattle.diagram.proofs.Unique.{Reduced}
use Rattle.twins.specs.Twins.{first_pair}
use Rattle.table.specs.Table.{outputs_in, are_levels, diagram_in, range_number, twins_number, numbering_number, fields_refusal, diagram_refusal, table_refusal}
use Rattle.table.proofs.Shaped.{shaped, sized}

pub record AcceptedTable (file : List ℕ) : Type 0 where
  pub framing : (fields_of file).framing ≡ Whole
  pub contacts : contacts_in (fields_of file).items ≡ Some (diagram_in file).contacts
  pub outputs : outputs_in (drop 1 (fields_of file).items) ≡ Some (diagram_in file).outputs
  pub levels : are_levels (diagram_in file).contacts (drop 2 (fields_of file).items) ≡ true
  pub sized : Sized (diagram_in file)
  pub reduced : Reduced (diagram_in file)

-- A diagram that no question refuses.
pub reduced : (d : Diagram) → diagram_refusal d ≡ 0 → Reduced d
unfolding diagram_refusal first_no
reduced d z = go (in_range d) (distinct d) (numbered d) refl refl refl z
  where
    go : (a b c : Bool) → in_range d ≡ a → distinct d ≡ b → numbered d ≡ c →
        first_no
        (range_number (cond a Within Outside) ∷ twins_number (cond b None (Some (first_pair d)))
        ∷ numbering_number (cond c InTurn OutOfTurn) ∷ [])
        ≡ 0 → Reduced d
    go false b c p q r z = absurd (omega arith)
    go true false c p q r z = absurd (omega arith)
    go true true false p q r z = absurd (omega arith)
    go true true true p q r z = record { ranged = p; differing = q; counted = r }

pub accepted : (file : List ℕ) → table_refusal file ≡ 0 → AcceptedTable file
unfolding table_refusal
accepted file z =
    let (asked, rest) = first-yes (fields_refusal file) (diagram_refusal (diagram_in file) ∷ []) z in
    let s = shaped file asked in
    record {
      framing = s.framing;
      contacts = s.contacts;
      outputs = s.outputs;
      levels = s.levels;
      sized = sized file s;
      reduced = reduced (diagram_in file) (first-yes (diagram_refusal (diagram_in file)) [] rest).0;
    }
