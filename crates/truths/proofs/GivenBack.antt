-- The drawing of an accepted table gives the table back.
use Prim.Native.Nat.{ℕ, ◌<◌}
use mathlib.Core.Path.{◌≡◌, sym, ap, ◌∙◌}
use lib.ListN.{length}
use Rattle.fields.proofs.Listed.{length-listed}
use Rattle.diagram.specs.Diagram.{root, Input}
use Rattle.table.specs.Table.{diagram_in}
use Rattle.table.proofs.Accepted.{accepted}
use Rattle.functions.proofs.Back.{values_of, own-narrow, own-table}
use Rattle.canonical.proofs.Outcomes.{narrow_number}
use Rattle.drawing.specs.Drawing.{Drawing, drawing_in, drawn_at}
use Rattle.truths.specs.Promises.{number_of, drawing_for, TableGivenBack}
use Rattle.truths.proofs.Answers.{refusal_is, narrow-agrees, table-agrees}
use Rattle.truths.proofs.Files.{drawing-back, file-formed}
use Rattle.truths.proofs.Redrawn.{redrawn-value}

pub table-given-back : TableGivenBack
table-given-back file t =
    let d = diagram_in file in
    let a = accepted file t.1 in
    let e = drawing_in (drawing_for d) in
    let back = drawing-back d in
    let contacts : d.contacts ≡ e.contacts = sym (ap (λ (e : Drawing). e.contacts) back) in
    let outputs : d.outputs ≡ length e.outputs =
    sym (ap (λ (e : Drawing). length e.outputs) back ∙ length-listed (λ j. number_of d 0 (root d j)) d.outputs 0) in
    let agree : (j : ℕ) → j < d.outputs → (x : Input) → values_of d j x ≡ drawn_at e j x = λ j h x.
    sym (ap (λ (e : Drawing). drawn_at e j x) back ∙ redrawn-value d a.reduced.ranged j x h) in (
      refusal_is (drawing_for d) (file-formed d a.sized a.reduced.ranged)
          ∙ ap narrow_number (sym (narrow-agrees d.contacts d.outputs (values_of d) e contacts outputs agree) ∙ own-narrow file t),
      sym (table-agrees d.contacts d.outputs (values_of d) e contacts outputs agree) ∙ own-table file t,
    )
