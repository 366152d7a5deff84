-- The laws of sums over so many numbers.
use Prim.Native.Nat.{ℕ, zero, suc, ◌+◌, ◌*◌, ◌<◌}
use native.Mathlib.Nat.{eq-or-lt_of_le, le_of_suc-le-suc, not-suc-le-zero, mul-suc, suc-mul}
use native.Mathlib.Numerals.{add-one}
use native.Mathlib.Omega.{arith}
use mathlib.Core.Path.{◌≡◌, refl, ap, ap₂}
use mathlib.Core.Logic.{⊎_elim}
use Rattle.twins.specs.Twins.{total, pairs_among}

pub total-more : (k : ℕ) (f : ℕ → ℕ) → total (k + 1) f ≡ total k f + f k
unfolding total
total-more k f = rw (add-one k)

pub total-same : (k : ℕ) (f g : ℕ → ℕ) → ((i : ℕ) → i < k → f i ≡ g i) → total k f ≡ total k g
unfolding total
total-same zero f g h = refl
total-same (suc k) f g h = ap₂ ◌+◌ (total-same k f g (λ i l. h i (omega arith))) (h k (omega arith))

pub ones : (k : ℕ) (f : ℕ → ℕ) → ((i : ℕ) → f i ≡ 1) → total k f ≡ k
unfolding total
ones zero f h = refl
ones (suc k) f h = omega (arith, ones k f h, h k)

pub zeros : (k : ℕ) (f : ℕ → ℕ) → ((i : ℕ) → f i ≡ 0) → total k f ≡ 0
unfolding total
zeros zero f h = refl
zeros (suc k) f h = omega (arith, zeros k f h, h k)

pub total-up_to : (k r : ℕ) (f g : ℕ → ℕ) → r < k → ((i : ℕ) → i < r → f i ≡ g i) → ((i : ℕ) → r < i → f i ≡ 0) →
    total k f ≡ total r g + f r
unfolding total
total-up_to zero r f g h low high = absurd (not-suc-le-zero h)
total-up_to (suc k) r f g h low high =
    ⊎_elim (λ e. rw e (ap (λ (s : ℕ). s + f k) (total-same k f g (λ i l. low i (omega arith)))))
    (λ l. omega (arith, total-up_to k r f g l low high, high k l)) (eq-or-lt_of_le (le_of_suc-le-suc h))

-- Twice the pairs of w + 1 nodes.
pub twice : (w : ℕ) → 2 * pairs_among (suc w) ≡ suc w * w
unfolding total
twice zero = refl
twice (suc w) = omega (arith, twice w, mul-suc (suc w) w, suc-mul (suc w) (suc w))
