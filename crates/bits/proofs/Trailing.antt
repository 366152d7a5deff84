-- The lowest set bit of a batch: it is set, and none below it is.
use Prim.Native.Nat.{ℕ, zero, suc, ◌/◌, ◌%◌, ◌^◌, ◌<◌}
use native.Mathlib.Nat.{add_comm}
use native.Mathlib.Numerals.{add-one}
use native.Mathlib.Omega.{arith}
use mathlib.Core.Path.{◌≡◌, refl, ◌∙◌}
use lib.Count.{count_trailing_zeros, under}
use lib.Pow.{shr-shr}
use Rattle.bits.specs.Inner.Bits.{bit_of}

-- The bits of a batch past the lowest are those of its half.
bit-half : (k w : ℕ) → bit_of (suc k) w ≡ bit_of k (w / 2)
bit-half k w = rw (← add-one k, add_comm k 1, ← shr-shr w 1 k)

-- The lowest set bit of a batch of so many bits that is not 0.
pub trailing-set : (n w : ℕ) → 0 < w → w < 2 ^ n → (count_trailing_zeros n w < n) × (bit_of (count_trailing_zeros n w) w ≡ 1)
unfolding count_trailing_zeros
trailing-set zero w p l = absurd (omega arith)
trailing-set (suc n) w p l = go (w % 2) refl (trailing-set n (w / 2))
  where
    go : (d : ℕ) → w % 2 ≡ d →
        (0 < w / 2 → w / 2 < 2 ^ n → (count_trailing_zeros n (w / 2) < n) × (bit_of (count_trailing_zeros n (w / 2)) (w / 2) ≡ 1)) →
        (under d (count_trailing_zeros n (w / 2)) < suc n) × (bit_of (under d (count_trailing_zeros n (w / 2))) w ≡ 1)
    go zero e rest =
        let r = rest (omega arith) (omega arith) in
        (omega arith, bit-half (count_trailing_zeros n (w / 2)) w ∙ r.1)
    go (suc d) e rest = (omega arith, omega arith)

pub trailing_below : (n w j : ℕ) → j < count_trailing_zeros n w → bit_of j w ≡ 0
unfolding count_trailing_zeros
trailing_below zero w j l = absurd (omega arith)
trailing_below (suc n) w j l = go (w % 2) refl j l (trailing_below n (w / 2))
  where
    go : (d : ℕ) → w % 2 ≡ d → (j : ℕ) → j < under d (count_trailing_zeros n (w / 2)) →
        ((j : ℕ) → j < count_trailing_zeros n (w / 2) → bit_of j (w / 2) ≡ 0) → bit_of j w ≡ 0
    go zero e zero l rest = omega arith
    go zero e (suc j) l rest = bit-half j w ∙ rest j (omega arith)
    go (suc d) e j l rest = absurd (omega arith)
