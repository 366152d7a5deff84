-- What reading a table gives, by the refusals of its fields and of its diagram, what question 6's search hands back, and what a reading
-- off gives.
use Prim.Native.Nat.{ℕ, zero, suc, ◌^◌, ◌≤◌, ◌<◌}
use mathlib.Core.Path.{◌≡◌, refl, sym, ap, ◌∙◌}
use mathlib.Core.List.{List, [], ◌∷◌}
use borrow.Author.Tests.{lt-ltb, le-ltb}
use mathlib.Core.Bool.{cond}
use lib.Dec.{ltb}
use Rattle.std.specs.Prelude.{Ok, Err, None}
use Rattle.fields.specs.Refusals.{first_no}
use Rattle.fields.proofs.Refusals.{first-no}
use Rattle.files.specs.declared.refusal.Refusal.{Refusal}
use Rattle.files.specs.declared.refusal.Refusal.TheVariants.{Input}
use Rattle.files.specs.Refusals.{number_of}
use Rattle.files.proofs.Refusals.{above_zero, not_zero}
use Rattle.diagram.specs.declared.Diagram.{Diagram}
use Rattle.diagram.specs.Diagram.{input_of, width, edge_at, word_at}
use Rattle.diagram.specs.Questions.{distinct}
use Rattle.diagram.specs.Inner.Fit.{Fit}
use Rattle.diagram.proofs.Asked.{fit}
use Rattle.twins.specs.Twins.{first_pair, comparison_of}
use Rattle.table.specs.Table.{diagram_in, fields_refusal, diagram_refusal, table_refusal, read_refusal, reading, reading_or, reading_of}
use Rattle.table.specs.Inner.Read.{bare, comparison_or, comparison_in}
use Rattle.table.proofs.Shaped.{shaped, sized}

comparison-or : (r : Refusal) (d : Diagram) → record { twins = None; compared = 0 } ≡ comparison_or (number_of r) d
comparison-or r d = rw (above_zero r).1

reading-or : (r : Refusal) (d : Diagram) (a : ℕ) → reading (Err r) ≡ reading_or (number_of r) d a
reading-or r d a = let (k, e) = above_zero r in rw e

alone : (k : ℕ) → k ≡ first_no (k ∷ [])
unfolding first_no
alone zero = refl
alone (suc k) = refl

-- Question 6 does not look at the outputs.
module _ (d : Diagram) where
  pub bare-fit : Fit d → Fit (bare d)
  unfolding width
  bare-fit f = record { contacts = f.contacts; nodes = f.nodes }

  pub bare-compared : comparison_of (bare d) ≡ comparison_of d
  unfolding first_pair distinct width edge_at
  bare-compared = refl

module _ (file : List ℕ) where
  -- The diagram of a file that passes questions 1 to 4 can be asked.
  pub fits : fields_refusal file ≡ 0 → Fit (diagram_in file) × ((diagram_in file).outputs ≤ 8)
  fits z = let limits = sized file (shaped file z) in (fit limits, limits.outputs.1)

  -- The first refusal is the table's; with none, the diagram is the file's.
  pub refused-fields : (r : Refusal) → number_of r ≡ fields_refusal file → number_of r ≡ table_refusal file
  unfolding table_refusal
  refused-fields r e = sym (first-no (number_of r) _ (not_zero r)) ∙ ap (λ (k : ℕ). first_no (k ∷ diagram_refusal (diagram_in file) ∷ [])) e

  pub refused-diagram : (k : ℕ) → 0 ≡ fields_refusal file → k ≡ diagram_refusal (diagram_in file) → k ≡ table_refusal file
  unfolding table_refusal first_no
  refused-diagram k z e = rw (← z, ← e) (alone k)

  pub comparison-none : (r : Refusal) → number_of r ≡ fields_refusal file → record { twins = None; compared = 0 } ≡ comparison_in file
  unfolding comparison_in
  comparison-none r e = comparison-or r (diagram_in file) ∙ ap (λ (n : ℕ). comparison_or n (diagram_in file)) e

  pub comparison-made : 0 ≡ fields_refusal file → comparison_of (diagram_in file) ≡ comparison_in file
  unfolding comparison_in
  comparison-made z = rw (← z)

  module _ (a : ℕ) where
    pub reading-refused : (r : Refusal) → number_of r ≡ table_refusal file → reading (Err r) ≡ reading_of file a
    unfolding reading_of read_refusal
    reading-refused r e =
        reading-or r (diagram_in file) a
        ∙ ap (λ (k : ℕ). reading_or k (diagram_in file) a)
        (sym (first-no (number_of r) _ (not_zero r)) ∙ ap (λ (k : ℕ). first_no (k ∷ cond (ltb a (2 ^ (diagram_in file).contacts)) 0 10 ∷ [])) e)

    module _ {d : Diagram} (z : 0 ≡ table_refusal file) (e : d ≡ diagram_in file) where
      pub reading-outside : 2 ^ d.contacts ≤ a → reading (Err Input) ≡ reading_of file a
      unfolding reading_of read_refusal first_no
      reading-outside h = rw (← z, le-ltb _ _ (rw e at h))

      pub reading-inside : a < 2 ^ d.contacts → {w : ℕ} → w ≡ word_at d (input_of a) d.outputs → reading (Ok w) ≡ reading_of file a
      unfolding reading_of read_refusal first_no
      reading-inside h f = rw (← z, lt-ltb _ _ (rw e at h), f, e)
