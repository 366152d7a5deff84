-- The answer to a drawing of good form: question 17 asked of its values, and the same for drawings with the same counts and values.
use Prim.Native.Nat.{ℕ, ◌<◌}
use mathlib.Core.Path.{◌≡◌, sym, ap, ap₂, ◌∙◌}
use mathlib.Core.Bool.{Bool, true, false}
use mathlib.Core.List.{List, [], ◌∷◌}
use lib.ListN.{length}
use Rattle.fields.specs.Refusals.{first_no}
use Rattle.fields.proofs.Refusals.{first-yes, first-last}
use Rattle.diagram.specs.Diagram.{Input}
use Rattle.table.specs.Encode.{bytes_of}
use Rattle.functions.specs.Functions.{functions_of, canonical, is_narrow}
use Rattle.functions.proofs.Agreeing.{narrow-same, table_same}
use Rattle.functions.proofs.Trees.{functions-same}
use Rattle.canonical.specs.Service.{laid_of, laid_number}
use Rattle.canonical.proofs.Outcomes.{narrow_number, laid-number, narrow-if, wide-if}
use Rattle.drawing.specs.Drawing.{Drawing, drawing_in, drawn_at}
use Rattle.truths.specs.Promises.{WellFormed}
use Rattle.truths.specs.Service.{functions_in, table_for, drawing_refusal}

-- Question 17 of a drawing.
abbrev pub narrow : Drawing → Bool
narrow d = is_narrow d.contacts (length d.outputs) (functions_in d)

module _ (file : List ℕ) where
  abbrev seventeen : ℕ
  seventeen = laid_number (laid_of (drawing_in file).contacts (length (drawing_in file).outputs) (functions_in (drawing_in file)))

  pub refusal-laid : WellFormed file → drawing_refusal file ≡ seventeen
  unfolding drawing_refusal
  refusal-laid w = ap (λ (a : ℕ). first_no (a ∷ seventeen ∷ [])) w ∙ first-last seventeen

  pub refusal_is : WellFormed file → drawing_refusal file ≡ narrow_number (narrow (drawing_in file))
  refusal_is w =
      let d = drawing_in file in refusal-laid w ∙ laid-number d.contacts (length d.outputs) (functions_in d)

  pub well-formed : drawing_refusal file ≡ 0 → WellFormed file
  unfolding drawing_refusal
  well-formed z = (first-yes _ _ z).0

  pub is-narrow : WellFormed file → drawing_refusal file ≡ 0 → narrow (drawing_in file) ≡ true
  is-narrow w z = narrow-if (narrow (drawing_in file)) (sym (refusal_is w) ∙ z)

  pub is_wide : WellFormed file → drawing_refusal file ≡ 17 → narrow (drawing_in file) ≡ false
  is_wide w z = wide-if (narrow (drawing_in file)) (sym (refusal_is w) ∙ z)

-- Values that agree, and counts that are the same.
module _ (n m : ℕ) (v : ℕ → Input → ℕ) (e : Drawing) (contacts : n ≡ e.contacts) (outputs : m ≡ length e.outputs)
    (agree : (j : ℕ) → j < m → (x : Input) → v j x ≡ drawn_at e j x) where
  pub narrow-agrees : is_narrow n m (functions_of n v) ≡ narrow e
  narrow-agrees =
      narrow-same n m (functions_of n v) (functions_of n (drawn_at e)) (functions-same n m v (drawn_at e) agree)
      ∙ ap₂ (λ (n m : ℕ). is_narrow n m (functions_of n (drawn_at e))) contacts outputs

  pub table-agrees : bytes_of (canonical n m (functions_of n v)) ≡ table_for e
  table-agrees =
      table_same n m (functions_of n v) (functions_of n (drawn_at e)) (functions-same n m v (drawn_at e) agree)
      ∙ ap₂ (λ (n m : ℕ). bytes_of (canonical n m (functions_of n (drawn_at e)))) contacts outputs
