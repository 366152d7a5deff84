-- A cube added word by word.
use Prim.Native.Nat.{ℕ, ◌+◌, ◌*◌, ◌^◌, ◌<◌, max}
use native.Mathlib.Omega.{arith}
use mathlib.Core.Path.{◌≡◌, sym, ap, ap₂, ◌∙◌, subst}
use mathlib.Core.Bool.{Bool, true, false, ◌&&◌, ◌||◌, cond, and-true, and-false, or-false}
use mathlib.Core.List.{List}
use borrow.Author.Tests.{eq-eqb, eqb-true}
use lib.Bits.{bit_and, bit_or, and_le_l}
use lib.Count.{count_trailing_zeros}
use lib.Dec.{eqb}
use lib.ListN.{length, get_or, set}
use lib.Seq.{get_or-set_same, get_or-set_other}
use Rattle.diagram.specs.Diagram.{bit}
use Rattle.bits.specs.Inner.Bits.{bit_of}
use Rattle.bits.proofs.Bits.{bit-digit, bit-zero, bit-and, bit-or, bit-either}
use Rattle.bits.proofs.Trailing.{trailing-set}
use Rattle.rulesheet.specs.Rules.{has_output}
use Rattle.cubes.specs.declared.Cube.{Cube}
use Rattle.cubes.specs.Inner.Cubes.{has_word, is_in}
use Rattle.coverage.specs.declared.cover.Shares.{Shares}
use Rattle.coverage.specs.declared.cover.Shares.TheVariants.{Apart, Shared}
use Rattle.coverage.specs.Inner.Gathering.{Marked, Gains, Put, Meets, Added, AddedIf}
use Rattle.coverage.proofs.Marks.{words-apart}

-- Bits that stay, and bits of a word with a pattern.
gains-none : (t : Bool) {a a' : ℕ} → t ≡ false → a' ≡ a → Gains t a a'
gains-none t e q b h = q ∙ h ∙ ap bit (sym (or-false b) ∙ ap (◌||◌ b) (sym e))

gains-pattern : (k a pattern : ℕ) → Gains (eqb (bit_of k pattern) 1) (bit_of k a) (bit_of k (bit_or a pattern))
gains-pattern k a pattern b h =
    bit-or k a pattern ∙ ap₂ max h (sym (bit-digit (bit_of k pattern) (omega arith))) ∙ bit-either b (eqb (bit_of k pattern) 1)

gains-chosen : (t : Bool) (k a pattern : ℕ) → Gains (eqb (bit_of k pattern) 1 && t) (bit_of k a) (bit_of k (bit_or a (cond t pattern 0)))
gains-chosen true k a pattern = rw (and-true (eqb (bit_of k pattern) 1)) (gains-pattern k a pattern)
gains-chosen false k a pattern = gains-none _ (and-false (eqb (bit_of k pattern) 1)) (bit-or k a 0 ∙ omega (arith, bit-zero k))

-- One word.
module _ (words m : ℕ) (c : Cube) (word v : ℕ) (ruled truths : List ℕ) where
  module _ (fit : has_word c v ≡ true) where
    in-cube : (k : ℕ) → is_in c v k ≡ eqb (bit_of k c.pattern) 1
    in-cube k = ap (λ (b : Bool). b && eqb (bit_of k c.pattern) 1) fit

    -- None of them was there.
    pub put_one : {truths' : List ℕ} → v < words → bit_and (get_or ruled v 0) c.pattern ≡ 0 → v < length ruled →
        Marked words m v word c.pattern truths truths' →
        Put words m c word v ruled truths (set ruled v (bit_or (get_or ruled v 0) c.pattern)) truths'
    put_one inside free room mark =
        record {
          some = λ k l. rw (in-cube k, get_or-set_same ruled v put 0 room) (gains-pattern k (get_or ruled v 0) c.pattern);
          each = λ j k h l.
              rw (in-cube k, mark.marked j h) (gains-chosen (has_output word j) k (get_or truths (j * words + v) 0) c.pattern);
          apart = λ k l t.
              let set : bit_of k c.pattern ≡ 1 = eqb-true _ _ (sym (in-cube k) ∙ t) in
              let none = sym (bit-and k (get_or ruled v 0) c.pattern) ∙ ap (bit_of k) free ∙ bit-zero k in
              omega (arith, none, set);
          ruled-rest = λ w n. get_or-set_other ruled v w put 0 n;
          truths-rest = λ j w h g n. mark.others (j * words + w) (λ i _. words-apart words w v j i g inside n);
        }
      where
        put : ℕ
        put = bit_or (get_or ruled v 0) c.pattern

    -- One of them was.
    pub meets : get_or ruled v 0 < 2 ^ 64 → (bit_and (get_or ruled v 0) c.pattern ≡ 0 → ⊥) → Meets c v ruled
    meets small some =
        let both = bit_and (get_or ruled v 0) c.pattern in
        let k = count_trailing_zeros 64 both in
        let (below, one) = trailing-set 64 both (omega arith) (omega (arith, and_le_l (get_or ruled v 0) c.pattern)) in
        let parts = sym (bit-and k (get_or ruled v 0) c.pattern) ∙ one in
        record {
          place = k;
          within = below;
          both = (in-cube k ∙ eq-eqb (bit_of k c.pattern) 1 (omega (arith, parts)), omega (arith, parts));
        }

-- What the answer says of all words.
module _ (words m : ℕ) (c : Cube) (word : ℕ) (ruled truths ruled' truths' : List ℕ) where
  pub cube-met : {r : Shares} → r ≡ Shared → AddedIf r words m c word ruled truths ruled' truths' → (w : ℕ) × (w < words) × Meets c w ruled
  cube-met e = subst (λ (r : Shares). AddedIf r words m c word ruled truths ruled' truths') e

  pub cube-added : {r : Shares} → r ≡ Apart → AddedIf r words m c word ruled truths ruled' truths' →
      Added words m c word words ruled truths ruled' truths'
  cube-added e = subst (λ (r : Shares). AddedIf r words m c word ruled truths ruled' truths') e
