-- The bits of batches: of AND, of OR, of a batch against all ones and of two batches that agree.
use Prim.Native.Nat.{ℕ, zero, suc, ◌*◌, ◌-◌, ◌/◌, ◌%◌, ◌^◌, ◌<◌, min, max}
use native.Mathlib.Nat.{zero-div, one-mul}
use native.Mathlib.Numerals.{one-add}
use native.Mathlib.Omega.{arith}
use mathlib.Core.Path.{◌≡◌, refl, sym, ap, ap₂, ◌∙◌}
use mathlib.Core.Bool.{Bool, true, false, not, ◌&&◌, ◌||◌, not-not}
use mathlib.Core.List.{List}
use borrow.Author.Tests.{eqb-true}
use lib.Bits.{bit_and, bit_or, bit_xor, differ, and_step, or_step, xor_step, and_shr, or_shr, xor_shr}
use lib.Dec.{eqb}
use lib.ListN.{get_or, get_or-map}
use lib.Pow.{shl_exact, shr-shr}
use Rattle.std.specs.Int.{w64}
use Rattle.std.proofs.lemmas.Nat.Bits.{bit_at_not}
use Rattle.fields.specs.Bounded.{all}
use Rattle.fields.proofs.Bounded.{all-at}
use Rattle.diagram.specs.Diagram.{bit}
use Rattle.bits.specs.Inner.Bits.{bit_of, bits_of}

abbrev pub ones : ℕ
ones = 0xFFFF_FFFF_FFFF_FFFF

pub bit-zero : (k : ℕ) → bit_of k 0 ≡ 0
bit-zero k = ap (λ (x : ℕ). x % 2) (zero-div (2 ^ k))

pub bit-ones : (k : ℕ) → k < 64 → bit_of k ones ≡ 1
unfolding all
bit-ones k l = eqb-true _ _ (all-at (λ k. eqb (bit_of k ones) 1) 64 refl k l)

pub bits_at : (k : ℕ) (ws : List ℕ) (i : ℕ) → get_or (bits_of k ws) i 0 ≡ bit_of k (get_or ws i 0)
bits_at k ws i = ap (get_or (bits_of k ws) i) (sym (bit-zero k)) ∙ get_or-map (bit_of k) ws i 0

-- The lowest bit of an operation.
and-odd : (a b : ℕ) → bit_and a b % 2 ≡ min (a % 2) (b % 2)
and-odd a b = omega (arith, and_step a b)

or-odd : (a b : ℕ) → bit_or a b % 2 ≡ max (a % 2) (b % 2)
or-odd a b = omega (arith, or_step a b)

pub bit-and : (k a b : ℕ) → bit_of k (bit_and a b) ≡ min (bit_of k a) (bit_of k b)
bit-and k a b = ap (λ (x : ℕ). x % 2) (and_shr a b k) ∙ and-odd (a / 2 ^ k) (b / 2 ^ k)

pub bit-or : (k a b : ℕ) → bit_of k (bit_or a b) ≡ max (bit_of k a) (bit_of k b)
bit-or k a b = ap (λ (x : ℕ). x % 2) (or_shr a b k) ∙ or-odd (a / 2 ^ k) (b / 2 ^ k)

-- A bit by whether it is 1.
pub bit-digit : (d : ℕ) → d < 2 → bit (eqb d 1) ≡ d
bit-digit zero h = refl
bit-digit (suc zero) h = refl
bit-digit (suc (suc d)) h = absurd (omega arith)

-- Bits that differ make 1, so a bit and 1 make the other one.
differs : (x y : ℕ) → x < 2 → y < 2 → differ x y ≡ bit (not (eqb x y))
differs zero zero lx ly = refl
differs zero (suc zero) lx ly = refl
differs zero (suc (suc y)) lx ly = absurd (omega arith)
differs (suc zero) zero lx ly = refl
differs (suc zero) (suc zero) lx ly = refl
differs (suc zero) (suc (suc y)) lx ly = absurd (omega arith)
differs (suc (suc x)) y lx ly = absurd (omega arith)

pub bit-lt : (b : Bool) → bit b < 2
bit-lt true = omega arith
bit-lt false = omega arith

xor-odd : (a b : ℕ) → bit_xor a b % 2 ≡ bit (not (eqb (a % 2) (b % 2)))
xor-odd a b =
    omega (arith, xor_step a b, differs (a % 2) (b % 2) (omega arith) (omega arith), bit-lt (not (eqb (a % 2) (b % 2))))

bit-xor : (k a b : ℕ) → bit_of k (bit_xor a b) ≡ bit (not (eqb (bit_of k a) (bit_of k b)))
bit-xor k a b = ap (λ (x : ℕ). x % 2) (xor_shr a b k) ∙ xor-odd (a / 2 ^ k) (b / 2 ^ k)

-- A batch against all ones has the other bits.
pub bit-flip : (k w : ℕ) (b : Bool) → k < 64 → bit_of k w ≡ bit b → bit_of k (bit_xor w ones) ≡ bit (not b)
bit-flip k w b l e = bit-xor k w ones ∙ ap₂ (λ (x y : ℕ). bit (not (eqb x y))) e (bit-ones k l) ∙ go b
  where
    go : (b : Bool) → bit (not (eqb (bit b) 1)) ≡ bit (not b)
    go true = refl
    go false = refl

-- The same by `!`, which takes a batch from all ones.
pub bit-not : (k w : ℕ) (b : Bool) → k < 64 → w < 2 ^ 64 → bit_of k w ≡ bit b → bit_of k (ones - w) ≡ bit (not b)
bit-not k w b l small e = bit_at_not w64 w k small l ∙ ap (λ (d : ℕ). 1 - d) e ∙ go b
  where
    go : (b : Bool) → 1 - bit b ≡ bit (not b)
    go true = refl
    go false = refl

-- Two batches agree where they do not differ.
pub bit-agree : (k a b : ℕ) → k < 64 → bit_of k (bit_xor (bit_xor a b) ones) ≡ bit (eqb (bit_of k a) (bit_of k b))
bit-agree k a b l =
    bit-flip k (bit_xor a b) (not (eqb (bit_of k a) (bit_of k b))) l (bit-xor k a b) ∙ ap bit (not-not (eqb (bit_of k a) (bit_of k b)))

pub bit-either : (a b : Bool) → max (bit a) (bit b) ≡ bit (a || b)
bit-either true true = refl
bit-either true false = refl
bit-either false true = refl
bit-either false false = refl

pub bit-both : (a b : Bool) → min (bit a) (bit b) ≡ bit (a && b)
bit-both true true = refl
bit-both true false = refl
bit-both false true = refl
bit-both false false = refl

-- Numbers with the same bits are the same.
pub bits-same : (w x y : ℕ) → x < 2 ^ w → y < 2 ^ w → ((i : ℕ) → i < w → bit_of i x ≡ bit_of i y) → x ≡ y
bits-same zero x y hx hy e = omega arith
bits-same (suc w) x y hx hy e =
    let high = bits-same w (x / 2) (y / 2) (omega arith) (omega arith) (λ i l.
    ap (λ (k : ℕ). k % 2) (shr-shr x 1 i) ∙ rw (one-add i) (e (suc i) (omega arith))
    ∙ sym (ap (λ (k : ℕ). k % 2) (shr-shr y 1 i ∙ ap (λ (k : ℕ). y / 2 ^ k) (one-add i)))) in
    omega (arith, e 0 (omega arith))

-- A power of two by a shift.
pub bits-of : (left : ℕ) → left < 64 → 1 * 2 ^ left % 2 ^ 64 ≡ 2 ^ left
bits-of left h = shl_exact 1 left 64 (omega arith) (omega arith) ∙ one-mul (2 ^ left)
