-- The cube of a rule: the last contacts by the bits of a word, the others by the number of the word.
use Prim.Native.Nat.{ℕ, zero, suc, ◌+◌, ◌*◌, ◌-◌, ◌/◌, ◌%◌, ◌^◌, ◌<◌, min}
use native.Mathlib.Nat.{div-one}
use native.Mathlib.Omega.{arith}
use mathlib.Core.Path.{◌≡◌, refl, sym, ap, ap₂, ◌∙◌}
use mathlib.Core.Bool.{Bool, true, false, not, ◌&&◌}
use mathlib.Core.List.{List}
use borrow.Author.Tests.{eq-eqb, ne_eqb, eqb-true, eqb-false}
use lib.Bits.{bit_and, and_step, and_zero_r}
use lib.Dec.{eqb}
use lib.ListN.{get_or}
use lib.Pow.{pow-add, shr-shr}
use Rattle.fields.specs.Bounded.{all}
use Rattle.fields.proofs.Bounded.{all_none, all-last, all-add, all-agree}
use Rattle.diagram.specs.Diagram.{bit, input_of}
use Rattle.bits.specs.Inner.Bits.{bit_of}
use Rattle.bits.proofs.Bits.{ones, bit-ones, bit-and, bit-not, bit-both}
use Rattle.bits.proofs.Rails.{low_same}
use Rattle.canonical.specs.Inner.Blocks.{input_at}
use Rattle.rulesheet.specs.Rules.{accepts}
use Rattle.cubes.specs.Inner.Cubes.{Low, mask_digit, value_digit, High, CubeOf}

-- A word without the inputs that a byte does not accept.
module _ (k word closed c : ℕ) (a b : Bool) (h : k < 64) (ea : bit_of k word ≡ bit a) (eb : bit_of k closed ≡ bit b) where
  pub narrowed-open : closed < 2 ^ 64 → c ≡ 0 → bit_of k (bit_and word (ones - closed)) ≡ bit (a && accepts c b)
  narrowed-open small e =
      bit-and k word (ones - closed) ∙ ap₂ min ea (bit-not k closed b h small eb) ∙ bit-both a (not b)
      ∙ ap (λ (c : ℕ). bit (a && accepts c b)) (sym e)

  pub narrowed-closed : c ≡ 1 → bit_of k (bit_and word closed) ≡ bit (a && accepts c b)
  narrowed-closed e = bit-and k word closed ∙ ap₂ min ea eb ∙ bit-both a b ∙ ap (λ (c : ℕ). bit (a && accepts c b)) (sym e)

pub low-none : (n fixed : ℕ) (rule : List ℕ) → Low n fixed 0 rule ones
low-none n fixed rule = record { bits = λ k h. bit-ones k h ∙ sym (ap bit (all_none _)) }

pub low-more : (n fixed i contact : ℕ) (rule : List ℕ) (pattern pattern' closed : ℕ) → contact ≡ fixed + i → Low n fixed i rule pattern →
    ((k : ℕ) → k < 64 → bit_of k closed ≡ bit (input_of k (n - suc contact))) →
    ((k : ℕ) (a b : Bool) → k < 64 → bit_of k pattern ≡ bit a → bit_of k closed ≡ bit b →
    bit_of k pattern' ≡ bit (a && accepts (get_or rule contact 0) b)) → Low n fixed (i + 1) rule pattern'
low-more n fixed i contact rule pattern pattern' closed e l c r =
    record {
      bits = λ k h.
          r k (all i (λ i. accepts (get_or rule (fixed + i) 0) (input_of k (n - suc (fixed + i))))) (input_of k (n - suc contact)) h (l.bits k h) (c k h)
          ∙ ap (λ (j : ℕ). bit (all i (λ i. accepts (get_or rule (fixed + i) 0) (input_of k (n - suc (fixed + i)))) && accepts (get_or rule j 0) (input_of k (n - suc j)))) e
          ∙ sym (ap bit (all-last _ i));
    }

-- Two digits more.
eqb-digits : (a y b v : ℕ) → y < 2 → v < 2 → eqb (a * 2 + y) (2 * b + v) ≡ (eqb a b && eqb y v)
eqb-digits a y b v hy hv = go (eqb a b) (eqb y v) refl refl
  where
    go : (p q : Bool) → eqb a b ≡ p → eqb y v ≡ q → eqb (a * 2 + y) (2 * b + v) ≡ (eqb a b && eqb y v)
    go true true e f =
        let same : a ≡ b = eqb-true a b e in
        let digit : y ≡ v = eqb-true y v f in
        eq-eqb (a * 2 + y) (2 * b + v) (omega arith) ∙ sym (ap₂ ◌&&◌ e f)
    go true false e f =
        let same : a ≡ b = eqb-true a b e in
        ne_eqb (a * 2 + y) (2 * b + v) (λ (z : a * 2 + y ≡ 2 * b + v). eqb-false y v f (omega arith)) ∙ sym (ap₂ ◌&&◌ e f)
    go false q e f =
        ne_eqb (a * 2 + y) (2 * b + v) (λ (z : a * 2 + y ≡ 2 * b + v). eqb-false a b e (omega arith)) ∙ sym (ap₂ ◌&&◌ e f)

-- One contact more, at the lowest digit d of a word's number.
digit-accepts : (c d : ℕ) → d < 2 → eqb (min d (mask_digit c)) (value_digit c) ≡ accepts c (eqb d 1)
digit-accepts zero zero h = refl
digit-accepts zero (suc zero) h = refl
digit-accepts (suc zero) zero h = refl
digit-accepts (suc zero) (suc zero) h = refl
digit-accepts (suc (suc c)) zero h = refl
digit-accepts (suc (suc c)) (suc zero) h = refl
digit-accepts c (suc (suc d)) h = absurd (omega arith)

digits-small : (c : ℕ) → (mask_digit c < 2) × (value_digit c < 2)
digits-small zero = (omega arith, omega arith)
digits-small (suc zero) = (omega arith, omega arith)
digits-small (suc (suc c)) = (omega arith, omega arith)

pub high-none : (fixed : ℕ) (rule : List ℕ) → High fixed 0 rule 0 0
high-none fixed rule =
    record {
      small = (omega arith, omega arith);
      fit = λ w. ap (λ (a : ℕ). eqb a 0) (and_zero_r (w / 2 ^ (fixed - 0))) ∙ sym (all_none _);
    }

pub high-more : (fixed i : ℕ) (rule : List ℕ) {mask value mask' value' : ℕ} → i < fixed → High fixed i rule mask value →
    mask' ≡ 2 * mask + mask_digit (get_or rule i 0) → value' ≡ 2 * value + value_digit (get_or rule i 0) → High fixed (i + 1) rule mask' value'
unfolding input_of
high-more fixed i rule {mask} {value} {mask'} {value'} h r em ev =
    let c = get_or rule i 0 in
    let (x, v) = digits-small c in
    let twice : 2 ^ (i + 1) ≡ 2 ^ i * 2 = pow-add 2 i 1 in
    record {
      small = (omega (arith, r.small.0, x, em, twice), omega (arith, r.small.1, v, ev, twice));
      fit = λ w.
          let p = fixed - (i + 1) in
          let whole = w / 2 ^ p in
          let up : whole / 2 ≡ w / 2 ^ (fixed - i) = shr-shr w p 1 ∙ ap (λ (p : ℕ). w / 2 ^ p) (omega arith) in
          let half : mask' / 2 ≡ mask = omega (arith, em, x) in
          let odd : mask' % 2 ≡ mask_digit c = omega (arith, em, x) in
          ap₂ eqb (and_step whole mask' ∙ ap₂ (λ (a y : ℕ). a * 2 + y) (ap₂ bit_and up half) (ap (min (whole % 2)) odd)) ev
          ∙ eqb-digits (bit_and (w / 2 ^ (fixed - i)) mask) (min (whole % 2) (mask_digit c)) value (value_digit c) (omega arith) v
          ∙ ap₂ ◌&&◌ (r.fit w)
          (digit-accepts c (whole % 2) (omega arith) ∙ ap (λ (p : ℕ). accepts c (eqb (w / 2 ^ p % 2) 1)) (omega arith))
          ∙ sym (all-last _ i);
    }

-- A contact's value at an input: a fixed one by the number of the word, one of the last six by the place in it.
fixed-contact : (n fixed : ℕ) → fixed ≡ n - 6 → (w k i : ℕ) → k < 64 → i < fixed → input_of w (fixed - suc i) ≡ input_at n (64 * w + k) i
unfolding input_of
fixed-contact n fixed e w k i h l =
    let p = fixed - suc i in
    let place : 6 + p ≡ n - suc i = omega arith in
    let number : w ≡ (64 * w + k) / 2 ^ 6 = omega arith in
    ap (λ (a : ℕ). eqb (a % 2) 1) (ap (λ (a : ℕ). a / 2 ^ p) number ∙ shr-shr (64 * w + k) 6 p ∙ ap (λ (p : ℕ). (64 * w + k) / 2 ^ p) place)

last-contact : (n fixed : ℕ) → fixed ≡ n - 6 → (w k i : ℕ) → k < 64 → i < n - fixed → input_of k (n - suc (fixed + i)) ≡ input_at n (64 * w + k) (fixed + i)
last-contact n fixed e w k i h l = sym (low_same (64 * w) k (omega arith) h (n - suc (fixed + i)) (omega arith))

-- The whole rule.
bit_is : (b : Bool) → eqb (bit b) 1 ≡ b
bit_is true = refl
bit_is false = refl

pub cube-of : (n fixed : ℕ) (rule : List ℕ) {mask value pattern : ℕ} → fixed ≡ n - 6 → High fixed fixed rule mask value →
    Low n fixed (n - fixed) rule pattern → CubeOf n rule (record { words = record { mask = mask; value = value }; pattern = pattern })
cube-of n fixed rule {mask} {value} {pattern} e high low =
    record {
      fit = λ w k h.
          let x = input_at n (64 * w + k) in
          let test : ℕ → Bool = λ i. accepts (get_or rule i 0) (x i) in
          let parts : fixed + (n - fixed) ≡ n = omega arith in
          let own : w / 2 ^ (fixed - fixed) ≡ w = ap (λ (p : ℕ). w / 2 ^ p) (let z : fixed - fixed ≡ 0 = omega arith in z) ∙ div-one w in
          ap₂ ◌&&◌
          (ap (λ (a : ℕ). eqb (bit_and a mask) value) (sym own) ∙ high.fit w
          ∙ all-agree fixed _ test (λ i l. ap (accepts (get_or rule i 0)) (fixed-contact n fixed e w k i h l)))
          (ap (λ (a : ℕ). eqb a 1) (low.bits k h) ∙ bit_is _
          ∙ all-agree (n - fixed) _ (λ i. test (fixed + i)) (λ i l. ap (accepts (get_or rule (fixed + i) 0)) (last-contact n fixed e w k i h l)))
          ∙ sym (all-add test fixed (n - fixed)) ∙ ap (λ (m : ℕ). all m test) parts;
    }
