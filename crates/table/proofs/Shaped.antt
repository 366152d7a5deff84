-- The shape of a table file that passes questions 1 to 4, and the limits that its diagram keeps.
use Prim.Native.Nat.{ℕ}
use native.Mathlib.Omega.{arith}
use mathlib.Core.Path.{◌≡◌, refl, sym, ap, ◌∙◌}
use mathlib.Core.Bool.{Bool, true, false, cond}
use mathlib.Core.List.{List, [], ◌∷◌}
use lib.ListN.{length, drop}
use Rattle.std.specs.Prelude.{Option, Some, None}
use Rattle.fields.specs.declared.Framing.{Framing}
use Rattle.fields.specs.declared.Framing.TheVariants.{Whole, Broken}
use Rattle.fields.specs.Fields.{Item, fields_of}
use Rattle.fields.specs.Refusals.{framing_number, first_no}
use Rattle.files.specs.Header.{contacts_in, contacts_number, contacts_of}
use Rattle.diagram.specs.declared.Diagram.{Diagram}
use Rattle.table.specs.declared.fit.Levels.TheVariants.{Given, Lacking}
use Rattle.diagram.specs.Questions.{Sized}
use Rattle.table.specs.Table.{outputs_in, outputs_number, are_levels, levels_number, diagram_of, fields_refusal}
use Rattle.diagram.proofs.Asked.{width_is}
use Rattle.table.proofs.Laid.{value-at, width_of}
use Rattle.table.proofs.Decoded.{half}
use Rattle.files.proofs.Heads.{counted}
use Rattle.table.proofs.Heads.{lists, value-one, level-at}

pub record Shaped (file : List ℕ) (d : Diagram) : Type 0 where
  pub framing : (fields_of file).framing ≡ Whole
  pub contacts : contacts_in (fields_of file).items ≡ Some d.contacts
  pub outputs : outputs_in (drop 1 (fields_of file).items) ≡ Some d.outputs
  pub levels : are_levels d.contacts (drop 2 (fields_of file).items) ≡ true

pub shaped : (file : List ℕ) → fields_refusal file ≡ 0 → Shaped file (diagram_of (fields_of file).items)
unfolding fields_refusal first_no diagram_of
shaped file z = go (fields_of file).framing (contacts_in is) (outputs_in (drop 1 is)) (are_levels n (drop 2 is)) refl refl refl refl z
  where
    is : List Item
    is = (fields_of file).items

    n : ℕ
    n = contacts_of is

    go : (a : Framing) (b c : Option ℕ) (e : Bool) →
        (fields_of file).framing ≡ a → contacts_in is ≡ b → outputs_in (drop 1 is) ≡ c → are_levels n (drop 2 is) ≡ e →
        first_no (framing_number a ∷ contacts_number b ∷ outputs_number c ∷ levels_number (cond e Given Lacking) ∷ []) ≡ 0 →
        Shaped file (diagram_of is)
    go Broken b c e p q r s z = absurd (omega arith)
    go Whole None c e p q r s z = absurd (omega arith)
    go Whole (Some k) None e p q r s z = absurd (omega arith)
    go Whole (Some k) (Some m) false p q r s z = absurd (omega arith)
    go Whole (Some k) (Some m) true p q r s z =
        record {
          framing = p;
          contacts = q ∙ ap Some (sym (ap contacts_of (counted is k q).split));
          outputs = r ∙ ap Some (sym (lists (drop 1 is) m r).count ∙ ap length (value-one is));
          levels = s;
        }

pub sized : (file : List ℕ) → Shaped file (diagram_of (fields_of file).items) → Sized (diagram_of (fields_of file).items)
sized file s =
    let is = (fields_of file).items in
    let d = diagram_of is in
    let n = counted is d.contacts s.contacts in
    let m = lists (drop 1 is) d.outputs s.outputs in
    record {
      contacts = (n.low, n.high);
      outputs = (m.low, m.high);
      widths = λ l h.
          let v = level-at d.contacts (drop 2 is) s.levels l h in
          let w = sym (width_is d l h) ∙ width_of is l (omega arith) ∙ ap half (value-at (drop 2 is) l) in
          omega arith;
    }
