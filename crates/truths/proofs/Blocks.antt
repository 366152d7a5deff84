-- A block of a number's truth table: one word, or the blocks of its edges, repeated.
use Prim.Native.Nat.{ℕ, suc, ◌+◌, ◌*◌, ◌-◌, ◌/◌, ◌%◌, ◌^◌, ◌≤◌, ◌<◌}
use native.Mathlib.Decide.{dec_lt}
use native.Mathlib.Nat.{suc-mul}
use native.Mathlib.Omega.{arith}
use mathlib.Core.Path.{◌≡◌, sym, ap, ◌∙◌}
use mathlib.Core.Bool.{true, false}
use mathlib.Core.Logic.{by_cases}
use mathlib.Core.List.{List, ◌++◌}
use borrow.Author.Tests.{eq-eqb, ne_eqb}
use lib.Arith.{digits_div}
use lib.ListN.{length, get_or, replicate, get_or-append}
use lib.Pow.{shr-shr}
use Rattle.std.proofs.lemmas.List.{get_or-replicate, get_or-append_right}
use Rattle.diagram.specs.Diagram.{input_of}
use Rattle.bits.specs.Inner.Bits.{bit_of}
use Rattle.bits.proofs.Bits.{bits-of}
use Rattle.canonical.proofs.Tabulated.{multiple, half-whole, next-whole}
use Rattle.truths.specs.Inner.Words.{Holds, WordsFrom, From, Forks, Block}
use Rattle.truths.proofs.Words.{word_of}

-- The two halves of a block: the fixed contact before the last `half` is open in the first, closed in the second.
module _ (w half i : ℕ) (whole : w % 2 ^ suc half ≡ 0) (h : i < 2 ^ half) where
  abbrev a : ℕ
  a = w / 2 ^ suc half

  fixed-bit : (x : ℕ) → 64 * x / 2 ^ (6 + half) ≡ x / 2 ^ half
  fixed-bit x = sym (shr-shr (64 * x) 6 half) ∙ ap (λ (y : ℕ). y / 2 ^ half) (omega arith)

  first-open : (place : ℕ) → place ≡ 6 + half → input_of (64 * (w + i)) place ≡ false
  unfolding input_of
  first-open place p =
      let e : w + i ≡ (a + a) * 2 ^ half + i = omega (arith, multiple w half whole) in
      let q = fixed-bit (w + i) ∙ ap (λ (x : ℕ). x / 2 ^ half) e ∙ digits_div (a + a) h in
      rw p (ne_eqb (64 * (w + i) / 2 ^ (6 + half) % 2) 1 (omega arith))

  second-closed : (place : ℕ) → place ≡ 6 + half → input_of (64 * (w + 2 ^ half + i)) place ≡ true
  unfolding input_of
  second-closed place p =
      let e : w + 2 ^ half + i ≡ suc (a + a) * 2 ^ half + i = omega (arith, multiple w half whole, suc-mul (a + a) (2 ^ half)) in
      let q = fixed-bit (w + 2 ^ half + i) ∙ ap (λ (x : ℕ). x / 2 ^ half) e ∙ digits_div (suc (a + a)) h in
      rw p (eq-eqb (64 * (w + 2 ^ half + i) / 2 ^ (6 + half) % 2) 1 (omega arith))

-- A block, filled with one word, or made of two.
module _ (n : ℕ) (nodes : List ℕ) (v : ℕ) where
  pub block-filled : (left : ℕ) (values : List ℕ) → WordsFrom n nodes values (n - 6) → From nodes (n - 6) v →
      Block n left nodes v (replicate (2 ^ left) (get_or values v 0))
  block-filled left values r f =
      record {
        held = λ w i m l. record {
          bits = λ k h. ap (bit_of k) (get_or-replicate (2 ^ left) i (get_or values v 0) 0 l) ∙ (word_of n nodes values (n - 6) v r f (w + i)).bits k h;
        };
      }

  module _ (half : ℕ) (a b : List ℕ) (long : length a ≡ 2 ^ half) where
    twice : 2 ^ suc half ≡ 2 ^ half + 2 ^ half
    twice = omega arith

    first : (i : ℕ) → i < 2 ^ half → get_or (a ++ b) i 0 ≡ get_or a i 0
    first i h = get_or-append a b 0 i (omega (arith, long))

    second : (i : ℕ) → 2 ^ half ≤ i → get_or (a ++ b) i 0 ≡ get_or b (i - 2 ^ half) 0
    second i h = get_or-append_right a b (2 ^ half) i 0 long h

    -- The blocks of both edges.
    pub block-halves : (u t : ℕ) → Forks n nodes v half u t → Block n half nodes u a → Block n half nodes t b →
        Block n (suc half) nodes v (a ++ b)
    block-halves u t f d e =
        record { held = λ w i whole l. by_cases (dec_lt i (2 ^ half)) (λ h. low w i whole h) (λ h. high w i whole (omega arith) (omega (arith, twice))) }
      where
        place : n - 1 - (n - 7 - half) ≡ 6 + half
        place = let h = f.fixed in omega arith

        low : (w i : ℕ) → w % 2 ^ suc half ≡ 0 → i < 2 ^ half → Holds n nodes v (w + i) (get_or (a ++ b) i 0)
        low w i whole h =
            record {
              bits = λ k g.
                  ap (bit_of k) (first i h)
                  ∙ (d.held w i (half-whole w half whole) h).bits k g
                  ∙ (f.to-zero.same (w + i) (first-open w half i whole h (n - 1 - (n - 7 - half)) place)).values k g;
            }

        high : (w i : ℕ) → w % 2 ^ suc half ≡ 0 → 2 ^ half ≤ i → i < 2 ^ half + 2 ^ half → Holds n nodes v (w + i) (get_or (a ++ b) i 0)
        high w i whole more h =
            let j = i - 2 ^ half in
            let inside : j < 2 ^ half = omega arith in
            let word : w + 2 ^ half + j ≡ w + i = omega arith in
            rw (← word)
            (record {
              bits = λ k g.
                  ap (bit_of k) (second i more)
                  ∙ (e.held (w + 2 ^ half) j (next-whole w half whole) inside).bits k g
                  ∙ (f.to-one.same (w + 2 ^ half + j) (second-closed w half j whole inside (n - 1 - (n - 7 - half)) place)).values k g;
            })

  -- A block over one contact less twice: v has no level before it.
  pub block-again : (half : ℕ) (a : List ℕ) → length a ≡ 2 ^ half → Block n half nodes v a → Block n (suc half) nodes v (a ++ a)
  block-again half a long d =
      record { held = λ w i whole l. by_cases (dec_lt i (2 ^ half)) (λ h. low w i whole h) (λ h. high w i whole (omega arith) (omega (arith, twice half a a long))) }
    where
      low : (w i : ℕ) → w % 2 ^ suc half ≡ 0 → i < 2 ^ half → Holds n nodes v (w + i) (get_or (a ++ a) i 0)
      low w i whole h = rw (first half a a long i h) (d.held w i (half-whole w half whole) h)

      high : (w i : ℕ) → w % 2 ^ suc half ≡ 0 → 2 ^ half ≤ i → i < 2 ^ half + 2 ^ half → Holds n nodes v (w + i) (get_or (a ++ a) i 0)
      high w i whole more h =
          let j = i - 2 ^ half in
          let word : w + 2 ^ half + j ≡ w + i = omega arith in
          rw (← word, second half a a long i more) (d.held (w + 2 ^ half) j (next-whole w half whole) (omega arith))

-- What a block is split into, where a fixed contact among those left leads on.
pub record Split (left half : ℕ) : Type 0 where
  pub fewer : suc half ≤ left
  pub size : 1 * 2 ^ (left - 1) % 2 ^ 64 ≡ 2 ^ (left - 1)
  pub twice : 2 ^ left ≡ 2 ^ (left - 1) + 2 ^ (left - 1)

pub splits : {n left half v u t : ℕ} {nodes : List ℕ} → n ≤ 12 → left ≤ n - 6 → From nodes (n - 6 - left) v → Forks n nodes v half u t → Split left half
splits {left = left} {half = half} {v = v} few most from f =
    let more = from.level (v - 2) (omega (arith, f.node)) in
    let fewer : suc half ≤ left = omega (arith, more, f.level, f.fixed) in
    let p : suc (left - 1) ≡ left = omega arith in
    record {
      fewer = fewer;
      size = bits-of (left - 1) (omega arith);
      twice = ap (λ (k : ℕ). 2 ^ k) (sym p) ∙ (let q : 2 ^ suc (left - 1) ≡ 2 ^ (left - 1) + 2 ^ (left - 1) = omega arith in q);
    }
