-- Of more numbers than they can have values two are equal.
use Prim.Native.Nat.{ℕ, zero, suc, ◌-◌, ◌≤◌, ◌<◌}
use native.Mathlib.Decide.{ℕ_discrete}
use native.Mathlib.Nat.{eq-or-lt_of_le, le_of_suc-le-suc}
use native.Mathlib.Omega.{arith, ne_cases}
use mathlib.Core.Path.{◌≡◌, sym, ap, ◌∙◌}
use mathlib.Core.Logic.{⊎_elim}

-- Whether one of the first k numbers is a.
met : (g : ℕ → ℕ) (k a : ℕ) → Dec ((i : ℕ) × (i < k) × (g i ≡ a))
met g zero a = no (λ r. absurd (omega (arith, r.1)))
met g (suc k) a = go (met g k a) (ℕ_discrete (g k) a)
  where
    go : Dec ((i : ℕ) × (i < k) × (g i ≡ a)) → Dec (g k ≡ a) → Dec ((i : ℕ) × (i < suc k) × (g i ≡ a))
    go (yes r) q = yes (r.0, omega (arith, r.1), r.2)
    go (no none) (yes e) = yes (k, omega arith, e)
    go (no none) (no ne) = no (λ r.
        ⊎_elim (λ e. ne (ap g (sym e) ∙ r.2)) (λ h. none (r.0, h, r.2)) (eq-or-lt_of_le (le_of_suc-le-suc r.1)))

-- The numbers without a: those above it are one less.
without : ℕ → ℕ → ℕ
without a b = b - (1 - (a - b))

module _ (a b : ℕ) where
  below : b < a → without a b ≡ b
  unfolding without
  below h = omega arith

  above : a < b → suc (without a b) ≡ b
  unfolding without
  above h = omega arith

without-most : (a b k : ℕ) → (b ≡ a → ⊥) → a ≤ k → b ≤ k → without a b < k
without-most a b k ne ha hb =
    ne_cases b a (without a b < k) ne (λ l. omega (arith, below a b l)) (λ l. omega (arith, above a b l))

without-same : (a b c : ℕ) → (b ≡ a → ⊥) → (c ≡ a → ⊥) → without a b ≡ without a c → b ≡ c
without-same a b c nb nc e =
    ne_cases b a (b ≡ c) nb
    (λ l. ne_cases c a (b ≡ c) nc (λ k. omega (arith, below a b l, below a c k)) (λ k. omega (arith, below a b l, above a c k)))
    (λ l. ne_cases c a (b ≡ c) nc (λ k. omega (arith, above a b l, below a c k)) (λ k. omega (arith, above a b l, above a c k)))

pub pigeonhole : (k : ℕ) (g : ℕ → ℕ) → ((i : ℕ) → i ≤ k → g i < k) →
    (i : ℕ) × (j : ℕ) × (i < j) × (j ≤ k) × (g i ≡ g j)
pigeonhole zero g h = absurd (omega (arith, h 0 (omega arith)))
pigeonhole (suc k) g h = go (met g (suc k) (g (suc k))) (pigeonhole k (λ i. without (g (suc k)) (g i)))
  where
    Two : (ℕ → ℕ) → ℕ → Type 0
    Two f n = (i : ℕ) × (j : ℕ) × (i < j) × (j ≤ n) × (f i ≡ f j)

    go : Dec ((i : ℕ) × (i < suc k) × (g i ≡ g (suc k))) →
        (((i : ℕ) → i ≤ k → without (g (suc k)) (g i) < k) → Two (λ i. without (g (suc k)) (g i)) k) → Two g (suc k)
    go (yes (i, l, e)) rest = (i, suc k, l, omega arith, e)
    go (no none) rest =
        let other : (i : ℕ) → i ≤ k → g i ≡ g (suc k) → ⊥ = λ i l e. none (i, omega arith, e) in
        let last = h (suc k) (omega arith) in
        let (i, j, l, m, e) = rest (λ i l.
        let first = h i (omega arith) in
        without-most (g (suc k)) (g i) k (other i l) (omega arith) (omega arith)) in
        (i, j, l, omega arith, without-same (g (suc k)) (g i) (g j) (other i (omega arith)) (other j m) e)
