-- What from-drawing returns and leaves: refused by question 16, or what writing the table of the functions gives.
use Prim.Native.Nat.{ℕ}
use native.Mathlib.Omega.{arith}
use mathlib.Core.Path.{◌≡◌, sym, ap, ◌∙◌}
use mathlib.Core.List.{List}
use Rattle.fields.specs.Fields.{fields_of}
use Rattle.fields.proofs.Refusals.{first-no}
use Rattle.std.specs.Prelude.{None, Err}
use Rattle.files.specs.declared.refusal.Refusal.TheVariants as Refusal
use Rattle.files.specs.Room.{written, writing_of}
use Rattle.files.proofs.Writing.{refused-before}
use Rattle.canonical.specs.Service.{tabling_of}
use Rattle.drawing.specs.Drawing.{Drawing, drawing_in, form_of, form_number}
use Rattle.truths.specs.Service.{table_for, drawing_refusal, from_drawing_of}
use Rattle.truths.specs.Inner.Words.{drawn_tabling}
use Rattle.truths.proofs.Answers.{refusal-laid}
use Rattle.truths.proofs.Asked.{Opened}

module _ (file buffer : List ℕ) where
  pub malformed : form_of (fields_of file) ≡ None → written (Err Refusal.Drawing) buffer ≡ from_drawing_of file buffer
  unfolding from_drawing_of drawing_refusal
  malformed e =
      let f : form_number (form_of (fields_of file)) ≡ 16 = ap form_number e in
      let g : drawing_refusal file ≡ 16 = first-no _ _ (λ z. omega arith) ∙ f in
      refused-before (table_for (drawing_in file)) buffer Refusal.Drawing (sym g)

  -- The table of its functions.
  pub tabled : {d : Drawing} → Opened file d → drawn_tabling d buffer ≡ from_drawing_of file buffer
  unfolding tabling_of from_drawing_of
  tabled o =
      ap (λ (e : Drawing). drawn_tabling e buffer) o.is
      ∙ ap (λ (k : ℕ). writing_of k (table_for (drawing_in file)) buffer) (sym (refusal-laid file o.well))
