-- The file of a diagram's drawing reads back as that drawing, and gets a yes to question 16.
use Prim.Native.Nat.{ℕ, zero, suc, ◌+◌, ◌*◌, ◌≤◌}
use native.Mathlib.Omega.{arith}
use mathlib.Core.Path.{◌≡◌, refl, sym, ap, ◌∙◌}
use mathlib.Core.Bool.{true}
use mathlib.Core.List.{List, [], ◌∷◌}
use borrow.Author.Tests.{le-leb}
use Rattle.fields.specs.declared.Framing.TheVariants.{Whole}
use Rattle.fields.specs.Fields.{Item, Fields, fields_of}
use Rattle.fields.proofs.Notes.{of-encoded}
use Rattle.fields.proofs.Listed.{length-listed}
use Rattle.std.specs.Prelude.{Some}
use Rattle.files.specs.Header.{contacts_in, has_parts}
use Rattle.files.proofs.Heads.{field}
use Rattle.files.proofs.WholeParts.{whole_parts}
use Rattle.diagram.specs.declared.Diagram.{Diagram}
use Rattle.diagram.specs.Diagram.{root}
use Rattle.diagram.specs.Questions.{Sized, in_range}
use Rattle.drawing.specs.Drawing.{drawing_of, drawing_in, form_of, form_number}
use Rattle.drawing.proofs.Forms.{formed}
use Rattle.truths.specs.Promises.{WellFormed, first_number, number_of, drawing_for}
use Rattle.truths.proofs.Placed.{nodes_of, nodes-whole, node-count}
use Rattle.truths.proofs.Redrawn.{redrawn, redrawn-sound}

abbrev items_of : Diagram → List Item
items_of d = field 1 (d.contacts ∷ []) ∷ field 2 (redrawn d).outputs ∷ field 7 (nodes_of d) ∷ []

file-fields : (d : Diagram) → fields_of (drawing_for d) ≡ record { items = items_of d; framing = Whole }
unfolding drawing_for
file-fields d = of-encoded (items_of d) (omega arith, (omega arith, (omega arith, tt)))

pub drawing-back : (d : Diagram) → drawing_in (drawing_for d) ≡ redrawn d
drawing-back d = ap (λ (fs : Fields). drawing_of fs.items) (file-fields d)

module _ (d : Diagram) (s : Sized d) where
  first-bounded : (l : ℕ) → l ≤ d.contacts → first_number d l ≤ 2 + 8 * l
  unfolding first_number
  first-bounded zero h = omega arith
  first-bounded (suc l) h = omega (arith, first-bounded l (omega arith), s.widths l h)

  counted : contacts_in (items_of d) ≡ Some d.contacts
  unfolding contacts_in
  counted = simp (le-leb _ _ s.contacts.0, le-leb _ _ s.contacts.1)

  outputs-whole : has_parts 2 1 1 8 (field 2 (redrawn d).outputs) ≡ true
  outputs-whole =
      let m = length-listed (λ j. number_of d 0 (root d j)) d.outputs 0 in
      let most = s.outputs in
      whole_parts 2 1 1 8 (redrawn d).outputs (omega arith) (omega arith) (omega arith)

  nodes-listed : has_parts 7 3 0 200 (field 7 (nodes_of d)) ≡ true
  nodes-listed =
      let count = node-count d in
      let bound = first-bounded d.contacts (omega arith) in
      whole_parts 7 3 0 200 (nodes_of d) (omega (arith, nodes-whole d)) (omega arith) (omega (arith, s.contacts))

  pub file-formed : in_range d ≡ true → WellFormed (drawing_for d)
  file-formed ranged =
      ap (λ (fs : Fields). form_number (form_of fs)) (file-fields d)
      ∙ ap form_number (sym (formed (record { items = items_of d; framing = Whole }) counted outputs-whole nodes-listed refl refl (redrawn-sound d ranged)))
