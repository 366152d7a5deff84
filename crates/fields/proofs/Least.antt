-- The least number that passes: where some number does, it is the first that does, and only the first is the least; where none does,
-- it is the bound.
use Prim.Native.Nat.{ℕ, zero, suc, ◌+◌, ◌≤◌, ◌<◌}
use native.Mathlib.Nat.{eq-or-lt_of_le, lt_of_not-le, zero-add, add-zero}
use native.Mathlib.Omega.{arith}
use mathlib.Core.Path.{◌≡◌, refl, sym, ap, ◌∙◌}
use mathlib.Core.Bool.{Bool, true, false, ◌||◌}
use mathlib.Core.Logic.{⊎_elim}
use Rattle.fields.specs.Bounded.{any, least_from, least}
use Rattle.fields.proofs.Bounded.{any_at}

-- The first number below k that passes.
pub record First (p : ℕ → Bool) (k r : ℕ) : Type 0 where
  pub below : r < k
  pub passes : p r ≡ true
  pub none : (j : ℕ) → j < r → p j ≡ false

module _ (p : ℕ → Bool) where
  from_is : (count i r : ℕ) → i ≤ r → r < i + count → p r ≡ true → ((j : ℕ) → j < r → p j ≡ false) → r ≡ least_from count p i
  unfolding least_from
  from_is zero i r h l e none = absurd (omega arith)
  from_is (suc count) i r h l e none = go (p i) refl (λ m. from_is count (suc i) r m (omega arith) e none)
    where
      go : (b : Bool) → p i ≡ b → (i < r → r ≡ least_from count p (suc i)) →
          r ≡ elim b [ true ↦ i | false ↦ least_from count p (suc i) ]
      go true ei rest =
          ⊎_elim (λ q. sym q) (λ m. absurd (let z : ◌≡◌ {A = ℕ} 0 1 = cc (none i m) in omega arith)) (eq-or-lt_of_le h)
      go false ei rest =
          rest
          (⊎_elim (λ q. absurd (let z : ◌≡◌ {A = ℕ} 0 1 = cc (ap p q) in omega arith)) (λ m. m) (eq-or-lt_of_le h))

  pub least-is : {k r : ℕ} → First p k r → r ≡ least k p
  least-is {k} {r} f = from_is k 0 r (omega arith) (omega arith) f.passes f.none

  from-none : (count i : ℕ) → ((j : ℕ) → j < i + count → p j ≡ false) → i + count ≡ least_from count p i
  unfolding least_from
  from-none zero i none = add-zero i
  from-none (suc count) i none =
      let shift : i + suc count ≡ suc i + count = omega arith in
      rw (none i (omega arith), least_from) (shift ∙ from-none count (suc i) (λ j l. none j (omega arith)))

  pub least-none : {k : ℕ} → ((j : ℕ) → j < k → p j ≡ false) → k ≡ least k p
  least-none {k} none = sym (zero-add k) ∙ from-none k 0 (λ j l. none j (omega arith))

  pub none_below : (k : ℕ) → any k p ≡ false → (j : ℕ) → j < k → p j ≡ false
  none_below k e j l = go (p j) refl
    where
      go : (b : Bool) → p j ≡ b → b ≡ false
      go true ej = absurd (let z : ◌≡◌ {A = ℕ} 0 1 = cc (any_at p k j l ej) in omega arith)
      go false ej = refl

  first : (k : ℕ) → any k p ≡ true → (r : ℕ) × First p k r
  unfolding any
  first zero e = absurd (let z : ◌≡◌ {A = ℕ} 0 1 = cc in omega arith)
  first (suc k) e = go (any k p) (p k) refl refl e (first k)
    where
      go : (a b : Bool) → any k p ≡ a → p k ≡ b → (a || b) ≡ true → (any k p ≡ true → (r : ℕ) × First p k r) →
          (r : ℕ) × First p (suc k) r
      go true b ea eb e rest =
          let (r, f) = rest ea in
          (r, record { below = omega arith; passes = f.passes; none = f.none })
      go false true ea eb e rest = (k, record { below = omega arith; passes = eb; none = none_below k ea })
      go false false ea eb e rest = absurd (let z : ◌≡◌ {A = ℕ} 0 1 = cc in omega arith)

  -- Where some number below k passes, a number that none below passes is below k.
  pub within : (k i : ℕ) → any k p ≡ true → ((j : ℕ) → j < i → p j ≡ false) → i < k
  within k i e none = lt_of_not-le (λ (m : k ≤ i). go m (first k e))
    where
      go : k ≤ i → (r : ℕ) × First p k r → ⊥
      go m (r, f) =
          let l = f.below in
          let z : ◌≡◌ {A = ℕ} 0 1 = cc (none r (omega arith), f.passes) in
          omega arith

  pub least_first : (k : ℕ) → any k p ≡ true → First p k (least k p)
  least_first k e =
      let (r, f) = first k e in
      rw (← least-is f) f

  -- A least number below k is the first that passes; one that is not says that none does.
  pub least-below : {k r : ℕ} → r ≡ least k p → r < k → First p k r
  least-below {k} {r} e l = go (any k p) refl
    where
      go : (b : Bool) → any k p ≡ b → First p k r
      go true ea = rw e (least_first k ea)
      go false ea = absurd (let z = least-none (none_below k ea) in omega arith)

  pub least-past : {k r : ℕ} → r ≡ least k p → k ≤ r → any k p ≡ false
  least-past {k} {r} e l = go (any k p) refl
    where
      go : (b : Bool) → any k p ≡ b → b ≡ false
      go true ea = absurd (let f = (least_first k ea).below in omega arith)
      go false ea = refl
