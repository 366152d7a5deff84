-- The table of functions with at most eight in a level is accepted, and its values are theirs.
use Prim.Native.Nat.{ℕ, zero, suc, ◌+◌, ◌-◌, ◌≤◌, ◌<◌}
use native.Mathlib.Nat.{eq-or-lt_of_le}
use native.Mathlib.Omega.{arith}
use mathlib.Core.Path.{◌≡◌, refl, sym, ap, ap₂, ◌∙◌}
use mathlib.Core.Bool.{Bool, true, false, cond}
use mathlib.Core.Logic.{⊎_elim}
use mathlib.Core.List.{[], ◌∷◌}
use lib.ListN.{length}
use Rattle.fields.specs.Refusals.{first_no}
use Rattle.diagram.specs.declared.Diagram.{Diagram}
use Rattle.diagram.specs.declared.sound.Range.TheVariants.{Within, Outside}
use Rattle.diagram.specs.declared.sound.Numbering.TheVariants.{InTurn, OutOfTurn}
use Rattle.diagram.specs.Diagram.{width, Input, path, value_at}
use Rattle.diagram.proofs.Unique.{Reduced}
use Rattle.std.specs.Prelude.{Some, None}
use Rattle.twins.specs.Twins.{first_pair}
use Rattle.table.specs.Encode.{bytes_of}
use Rattle.table.specs.Promises.{Accepted}
use Rattle.table.specs.Table.{diagram_of, diagram_in, diagram_refusal, table_refusal}
use Rattle.table.proofs.Refusals.{diagram-by}
use Rattle.table.proofs.Written.{Limits, root-back, fields-pass, diagram-back, bytes_back}
use Rattle.functions.specs.Functions.{Function, constant, choice, half, functions_of, place, level_of, number_in, canonical, is_narrow}
use Rattle.functions.proofs.Diagrams.{diagram_for, limits, contacts-is, outputs-is, width_is, width-end, edge-is, number-in}
use Rattle.functions.proofs.Levels.{half_full, mention-in, half_in, functions-full}
use Rattle.functions.proofs.Passed.{reduced}
use Rattle.functions.proofs.Places.{place_is}
use Rattle.functions.proofs.Trees.{Full, Values, value_from, value-half, whole-value}

-- A diagram that passes questions 5 to 7 is not refused.
passes : (d : Diagram) → Reduced d → diagram_refusal d ≡ 0
unfolding first_no
passes d r =
    sym (diagram-by d Within None InTurn (ap (λ (b : Bool). cond b Within Outside) r.ranged)
    (ap (λ (b : Bool). cond b None (Some (first_pair d))) r.differing) (ap (λ (b : Bool). cond b InTurn OutOfTurn) r.counted))

module _ (n m : ℕ) (f : ℕ → Function) (s : Limits (canonical n m f)) (full : (j : ℕ) → j < m → Full n (f j)) where
  -- The path from a function's node leads to its value.
  path-value : (left l : ℕ) (g : Function) (x : Input) → l + left ≡ n → Full left g →
      place (level_of f m l) g < length (level_of f m l) →
      path (diagram_for n m f) x left l (number_in (level_of f m l) g) ≡ value_from g x l
  unfolding path value_from
  path-value zero l (constant v) x p h i = refl
  path-value zero l (choice a b) x p h i = absurd h
  path-value (suc left) l (constant v) x p h i = absurd h
  path-value (suc left) l (choice a b) x p h i =
      let g = choice a b in
      ap (path (diagram_for n m f) x left (suc l))
      (edge-is n m f s l (place (level_of f m l) g) (x l) (omega arith) i
      ∙ ap (λ (e : Function). number_in (level_of f m (suc l)) (half (x l) e)) (place_is (level_of f m l) g (constant 0) i))
      ∙ path-value left (suc l) (half (x l) g) x (omega arith) (half_full (x l) left g h) (half_in f m l g (x l) i)
      ∙ value-half left g x l h

  value-is : (x : Input) (j : ℕ) → j < m → value_at (diagram_for n m f) x j ≡ value_from (f j) x 0
  unfolding value_at diagram_of
  value-is x j h =
      ap (path (diagram_for n m f) x n 0) (root-back (canonical n m f) s j h)
      ∙ path-value n 0 (f j) x (omega arith) (full j h) (mention-in f m 0 j h)

  -- All numbers are small.
  width-most : (l : ℕ) → l ≤ n → width (diagram_for n m f) l ≤ 8
  width-most l h =
      ⊎_elim (λ e. omega (arith, ap (width (diagram_for n m f)) e, width-end n m f s))
      (λ g. omega (arith, width_is n m f s l g, s.widths l g)) (eq-or-lt_of_le h)

  accepted : Accepted (bytes_of (canonical n m f))
  unfolding table_refusal first_no
  accepted = (
    bytes_back (canonical n m f) s
        (λ j h. omega (arith, number-in n m f s full 0 n j (omega arith) h, width-most 0 (omega arith)))
        (λ l k h g. omega (arith, number-in n m f s full (suc l) (n - suc l) k (omega arith) g, width-most (suc l) h)),
    ap₂ (λ (k : ℕ) (e : Diagram). first_no (k ∷ diagram_refusal e ∷ [])) (fields-pass (canonical n m f) s) (diagram-back (canonical n m f))
        ∙ ap (λ (k : ℕ). first_no (0 ∷ k ∷ [])) (passes (diagram_for n m f) (reduced n m f s full)),
  )

-- The table of given values.
module _ (n m : ℕ) (v : ℕ → Input → ℕ) (hn : (1 ≤ n) × (n ≤ 12)) (hm : (1 ≤ m) × (m ≤ 8))
    (values : (j : ℕ) → j < m → Values n (v j)) (narrow : is_narrow n m (functions_of n v) ≡ true) where
  pub canonical-accepted : Accepted (bytes_of (canonical n m (functions_of n v)))
  canonical-accepted =
      accepted n m (functions_of n v) (limits n m (functions_of n v) hn hm narrow) (functions-full n m v values)

  pub canonical-contacts : (diagram_in (bytes_of (canonical n m (functions_of n v)))).contacts ≡ n
  canonical-contacts =
      ap (λ (d : Diagram). d.contacts) (diagram-back (canonical n m (functions_of n v)))
      ∙ contacts-is n m (functions_of n v) (limits n m (functions_of n v) hn hm narrow)

  pub canonical-outputs : (diagram_in (bytes_of (canonical n m (functions_of n v)))).outputs ≡ m
  canonical-outputs =
      ap (λ (d : Diagram). d.outputs) (diagram-back (canonical n m (functions_of n v)))
      ∙ outputs-is n m (functions_of n v) (limits n m (functions_of n v) hn hm narrow)

  pub canonical-value : (x : Input) (j : ℕ) → j < m → value_at (diagram_in (bytes_of (canonical n m (functions_of n v)))) x j ≡ v j x
  canonical-value x j h =
      ap (λ (d : Diagram). value_at d x j) (diagram-back (canonical n m (functions_of n v)))
      ∙ value-is n m (functions_of n v) (limits n m (functions_of n v) hn hm narrow) (functions-full n m v values) x j h
      ∙ whole-value n (v j) (values j h) (λ _. false) x
