-- The first of some functions, each once: where each of them is, that they are numbered by first mention, and what one more adds.
use Prim.Native.Nat.{ℕ, zero, suc, max, ◌≤◌, ◌<◌}
use native.Mathlib.Decide.{dec_lt}
use native.Mathlib.Nat.{eq-or-lt_of_le, le_of_suc-le-suc}
use native.Mathlib.Omega.{arith}
use mathlib.Core.Path.{◌≡◌, refl, sym, ap, ap₂, ◌∙◌}
use mathlib.Core.Logic.{⊎_elim}
use mathlib.Core.List.{[], ◌∷◌, ◌++◌}
use lib.ListN.{length, get_or}
use Rattle.diagram.specs.Questions.{brought}
use Rattle.functions.specs.Functions.{Function, place, mentioned, firsts}
use Rattle.functions.proofs.Places.{place-most, mentioned-old, mentioned-new, length-mentioned, place-mentioned, place_kept, get_d_kept, get_or-last}

-- Functions equal below K.
pub firsts_same : (f g : ℕ → Function) (K : ℕ) → ((i : ℕ) → i < K → f i ≡ g i) → firsts f K ≡ firsts g K
unfolding firsts
firsts_same f g zero h = refl
firsts_same f g (suc K) h = ap₂ mentioned (firsts_same f g K (λ i l. h i (omega arith))) (h K (omega arith))

module _ (f : ℕ → Function) where
  -- What one step does.
  pub firsts-none : firsts f 0 ≡ []
  unfolding firsts
  firsts-none = refl

  pub firsts-old : (k : ℕ) → place (firsts f k) (f k) < length (firsts f k) → firsts f (suc k) ≡ firsts f k
  unfolding firsts
  firsts-old k h = mentioned-old (firsts f k) (f k) h

  pub firsts-new : (k : ℕ) → length (firsts f k) ≤ place (firsts f k) (f k) → firsts f (suc k) ≡ firsts f k ++ (f k ∷ [])
  unfolding firsts
  firsts-new k h = mentioned-new (firsts f k) (f k) h

  length-suc : (k : ℕ) → length (firsts f (suc k)) ≡ max (length (firsts f k)) (suc (place (firsts f k) (f k)))
  unfolding firsts
  length-suc k = length-mentioned (firsts f k) (f k)

  place-suc : (k : ℕ) → place (firsts f (suc k)) (f k) ≡ place (firsts f k) (f k)
  unfolding firsts
  place-suc k = place-mentioned (firsts f k) (f k)

  pub length_most : (k : ℕ) → length (firsts f k) ≤ k
  unfolding firsts
  length_most zero = omega arith
  length_most (suc k) =
      omega (arith, length-mentioned (firsts f k) (f k), place-most (firsts f k) (f k), length_most k)

  pub length_more : (k K : ℕ) → k ≤ K → length (firsts f k) ≤ length (firsts f K)
  length_more k zero h = let e : k ≡ 0 = omega arith in rw e (omega arith)
  length_more k (suc K) h =
      ⊎_elim (λ e. rw e (omega arith)) (λ l. omega (arith, length_more k K (le_of_suc-le-suc l), length-suc K)) (eq-or-lt_of_le h)

  -- What is there stays where it is.
  pub place-stays : (k K : ℕ) (g : Function) → k ≤ K → place (firsts f k) g < length (firsts f k) →
      place (firsts f K) g ≡ place (firsts f k) g
  unfolding firsts
  place-stays k zero g h l = let e : k ≡ 0 = omega arith in rw e refl
  place-stays k (suc K) g h l =
      ⊎_elim (λ e. rw e refl)
      (λ i.
      let p = place-stays k K g (le_of_suc-le-suc i) l in
      let n = length_more k K (le_of_suc-le-suc i) in
      place_kept (firsts f K) (f K) g (omega arith) ∙ p) (eq-or-lt_of_le h)

  -- The place that was found for a function before it was entered.
  pub place-entered : (k K : ℕ) → k < K → place (firsts f K) (f k) ≡ place (firsts f k) (f k)
  place-entered k K h =
      let p = place-suc k in
      place-stays (suc k) K (f k) h (omega (arith, length-suc k)) ∙ p

  pub place_in : (k K : ℕ) → k < K → place (firsts f K) (f k) < length (firsts f K)
  place_in k K h = omega (arith, place-entered k K h, length-suc k, length_more (suc k) K h)

  -- Each is where it is found.
  pub place-own : (K u : ℕ) (d : Function) → u < length (firsts f K) → place (firsts f K) (get_or (firsts f K) u d) ≡ u
  unfolding firsts
  place-own zero u d h = absurd (omega arith)
  place-own (suc K) u d h = go (dec_lt u (length (firsts f K))) (place-own K u d)
    where
      go : Dec (u < length (firsts f K)) → (u < length (firsts f K) → place (firsts f K) (get_or (firsts f K) u d) ≡ u) →
          place (mentioned (firsts f K) (f K)) (get_or (mentioned (firsts f K) (f K)) u d) ≡ u
      go (yes l) own =
          ap (place (mentioned (firsts f K) (f K))) (get_d_kept (firsts f K) (f K) u d l)
          ∙ place_kept (firsts f K) (f K) (get_or (firsts f K) u d) (omega (arith, own l))
          ∙ own l
      go (no l) own =
          let (p, e) = get_or-last (firsts f K) (f K) u d (omega arith) h in
          ap (place (mentioned (firsts f K) (f K))) e ∙ place-mentioned (firsts f K) (f K) ∙ sym p

  -- Each is mentioned.
  pub firsts-from : (K u : ℕ) (d : Function) → u < length (firsts f K) → (k : ℕ) × (k < K) × (f k ≡ get_or (firsts f K) u d)
  unfolding firsts
  firsts-from zero u d h = absurd (omega arith)
  firsts-from (suc K) u d h = go (dec_lt u (length (firsts f K))) (firsts-from K u d)
    where
      go : Dec (u < length (firsts f K)) → (u < length (firsts f K) → (k : ℕ) × (k < K) × (f k ≡ get_or (firsts f K) u d)) →
          (k : ℕ) × (k < suc K) × (f k ≡ get_or (mentioned (firsts f K) (f K)) u d)
      go (yes l) rest =
          let (k, i, e) = rest l in
          (k, omega arith, e ∙ sym (get_d_kept (firsts f K) (f K) u d l))
      go (no l) rest = (K, omega arith, sym (get_or-last (firsts f K) (f K) u d (omega arith) h).1)

  -- They are numbered by first mention.
  numbers : (k K : ℕ) → k ≤ K → brought (λ i. place (firsts f K) (f i)) k ≡ length (firsts f k)
  unfolding brought firsts
  numbers zero K h = refl
  numbers (suc k) K h =
      ap₂ max (numbers k K (omega arith)) (ap suc (place-entered k K h)) ∙ sym (length-suc k)

  pub in-turn : (k K : ℕ) → k < K → place (firsts f K) (f k) ≤ brought (λ i. place (firsts f K) (f i)) k
  in-turn k K h = omega (arith, place-entered k K h, numbers k K (omega arith), place-most (firsts f k) (f k))

  pub all-brought : (K : ℕ) → brought (λ i. place (firsts f K) (f i)) K ≡ length (firsts f K)
  all-brought K = numbers K K (omega arith)
