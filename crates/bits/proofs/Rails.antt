-- The rails' batches: contacts 0 to 5 have patterns that repeat within 64 inputs, the others one value at all of them.
use Prim.Native.Nat.{ℕ, zero, suc, ◌+◌, ◌-◌, ◌/◌, ◌%◌, ◌^◌, ◌≤◌, ◌<◌}
use native.Mathlib.Omega.{arith}
use mathlib.Core.Path.{◌≡◌, refl, sym, ap, ◌∙◌}
use mathlib.Core.List.{List, [], ◌∷◌}
use borrow.Author.Tests.{eqb-true}
use lib.Dec.{eqb}
use lib.ListN.{get_or}
use lib.Pow.{shr-shr}
use Rattle.fields.specs.Bounded.{all}
use Rattle.fields.proofs.Bounded.{all-at}
use Rattle.diagram.specs.Diagram.{bit, input_of}
use Rattle.bits.specs.Inner.Bits.{bit_of}
use Rattle.bits.proofs.Bits.{bit-digit}

abbrev pub patterns : List ℕ
patterns =
    0xAAAA_AAAA_AAAA_AAAA
    ∷ 0xCCCC_CCCC_CCCC_CCCC
    ∷ 0xF0F0_F0F0_F0F0_F0F0
    ∷ 0xFF00_FF00_FF00_FF00
    ∷ 0xFFFF_0000_FFFF_0000
    ∷ 0xFFFF_FFFF_0000_0000
    ∷ []

bit-pattern : (c k : ℕ) → c < 6 → k < 64 → bit_of k (get_or patterns c 0) ≡ k / 2 ^ c % 2
unfolding all
bit-pattern c k lc lk =
    eqb-true _ _
    (all-at (λ k. eqb (bit_of k (get_or patterns c 0)) (k / 2 ^ c % 2)) 64
    (all-at (λ c. all 64 (λ k. eqb (bit_of k (get_or patterns c 0)) (k / 2 ^ c % 2))) 6 refl c lc)
    k
    lk)

-- A contact's value at an input is a bit of the input's number.
pub input-bit : (a i : ℕ) → bit (input_of a i) ≡ bit_of i a
unfolding input_of
input-bit a i = bit-digit (bit_of i a) (omega arith)

module _ (base k : ℕ) (whole : base % 64 ≡ 0) (l : k < 64) where
  low : (c : ℕ) → c < 6 → k / 2 ^ c % 2 ≡ (base + k) / 2 ^ c % 2
  low zero h = omega arith
  low (suc zero) h = omega arith
  low (suc (suc zero)) h = omega arith
  low (suc (suc (suc zero))) h = omega arith
  low (suc (suc (suc (suc zero)))) h = omega arith
  low (suc (suc (suc (suc (suc zero))))) h = omega arith
  low (suc (suc (suc (suc (suc (suc c)))))) h = absurd (omega arith)

  high : (c : ℕ) → base / 2 ^ (6 + c) ≡ (base + k) / 2 ^ (6 + c)
  high c = rw (← shr-shr base 6 c, ← shr-shr (base + k) 6 c) (ap (λ (x : ℕ). x / 2 ^ c) (omega arith))

  pub rail-low : (c : ℕ) → c < 6 → bit_of k (get_or patterns c 0) ≡ bit (input_of (base + k) c)
  rail-low c h = bit-pattern c k h l ∙ low c h ∙ sym (input-bit (base + k) c)

  pub rail-high : (c : ℕ) → 6 ≤ c → bit_of c base ≡ bit (input_of (base + k) c)
  rail-high c h =
      ap (λ (x : ℕ). x % 2) (rw (let e : c ≡ 6 + (c - 6) = omega arith in e) (high (c - 6))) ∙ sym (input-bit (base + k) c)

  -- The first six contacts have the same values in each batch; the others one value in a batch.
  pub low_same : (c : ℕ) → c < 6 → input_of (base + k) c ≡ input_of k c
  unfolding input_of
  low_same c h = ap (λ (x : ℕ). eqb x 1) (sym (low c h))

  pub high_same : (c : ℕ) → 6 ≤ c → input_of (base + k) c ≡ input_of base c
  unfolding input_of
  high_same c h =
      let e : c ≡ 6 + (c - 6) = omega arith in
      let same : base / 2 ^ c ≡ (base + k) / 2 ^ c = rw e (high (c - 6)) in
      ap (λ (x : ℕ). eqb (x % 2) 1) (sym same)
