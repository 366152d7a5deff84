-- The promises about the table of a drawing. That an accepted table is given back is in GivenBack.
use Prim.Native.Nat.{ℕ, ◌<◌}
use native.Mathlib.Omega.{arith}
use mathlib.Core.Path.{◌≡◌, sym, ap, ap₂, ◌∙◌}
use mathlib.Core.List.{List}
use lib.ListN.{length}
use Rattle.diagram.specs.Diagram.{Input, word_of, word_at}
use Rattle.diagram.proofs.Words.{word-values, word_same}
use Rattle.files.specs.Room.{writing_of}
use Rattle.table.specs.Table.{diagram_in}
use Rattle.functions.proofs.Canonical.{canonical-accepted, canonical-contacts, canonical-outputs, canonical-value}
use Rattle.functions.proofs.Wide.{wide, not_narrow}
use Rattle.canonical.proofs.Outcomes.{narrow_number}
use Rattle.drawing.specs.Drawing.{drawing_in, drawn_at}
use Rattle.truths.specs.Promises.{TableOfDrawing, OneTable, SeventeenIfWide}
use Rattle.truths.specs.Service.{table_for, from_drawing_of}
use Rattle.truths.proofs.Answers.{refusal_is, well-formed, is-narrow, is_wide, narrow-agrees, table-agrees}
use Rattle.truths.proofs.Asked.{limited, limited-values}

pub table-of-drawing : TableOfDrawing
table-of-drawing file z =
    let w = well-formed file z in
    let d = drawing_in file in
    let n = d.contacts in
    let m = length d.outputs in
    let l = limited file w in
    let values = limited-values d l in
    let narrow = is-narrow file w z in
    let outputs = canonical-outputs n m (drawn_at d) l.contacts l.outputs values narrow in (
      canonical-accepted n m (drawn_at d) l.contacts l.outputs values narrow,
      canonical-contacts n m (drawn_at d) l.contacts l.outputs values narrow,
      outputs,
      λ x.
          ap (word_at (diagram_in (table_for d)) x) outputs
          ∙ word_same _ _ m (canonical-value n m (drawn_at d) l.contacts l.outputs values narrow x),
    )

pub one_table : OneTable
unfolding from_drawing_of
one_table file other wf wo contacts outputs words buffer =
    let d = drawing_in file in
    let e = drawing_in other in
    let m = length d.outputs in
    let ld = limited file wf in
    let le = limited other wo in
    let agree : (j : ℕ) → j < m → (x : Input) → drawn_at d j x ≡ drawn_at e j x = λ j h x.
    word-values (λ j. drawn_at d j x) (λ j. drawn_at e j x) m (λ i k. (limited-values d ld i k).bit x)
    (λ i k. (limited-values e le i (omega arith)).bit x) (words x ∙ ap (word_of (λ j. drawn_at e j x)) (sym outputs)) j h in
    ap₂ (λ (k : ℕ) (t : List ℕ). writing_of k t buffer)
    (refusal_is file wf ∙ ap narrow_number (narrow-agrees d.contacts m (drawn_at d) e contacts outputs agree) ∙ sym (refusal_is other wo))
    (table-agrees d.contacts m (drawn_at d) e contacts outputs agree)

pub seventeen-if-wide : SeventeenIfWide
seventeen-if-wide file w =
    let d = drawing_in file in
    let n = d.contacts in
    let m = length d.outputs in
    let values = limited-values d (limited file w) in (
      λ z. wide n m (drawn_at d) values (is_wide file w z),
      λ (l, h, nine). refusal_is file w ∙ ap narrow_number (not_narrow n m (drawn_at d) values l h nine),
    )
