-- A pattern put into one word of some truth tables, one after the other.
use Prim.Native.Nat.{ℕ, suc, ◌+◌, ◌*◌, ◌%◌, ◌<◌}
use native.Mathlib.Decide.{ℕ_discrete}
use native.Mathlib.Nat.{mul-le-mul_right, suc-mul}
use native.Mathlib.Omega.{arith}
use mathlib.Core.Path.{◌≡◌, sym, ap, ◌∙◌}
use mathlib.Core.Bool.{cond}
use mathlib.Core.Logic.{by_cases}
use mathlib.Core.List.{List}
use lib.Arith.{digits_mod}
use lib.Bits.{bit_or}
use lib.ListN.{length, get_or, set}
use lib.Seq.{get_or-set_same, get_or-set_other}
use Rattle.rulesheet.specs.Rules.{has_output}
use Rattle.coverage.specs.Inner.Gathering.{Marked}

-- Words of two truth tables stand apart, and so do two words of one.
pub tables-apart : (words w i j : ℕ) → w < words → i < j → i * words + w ≡ j * words + w → ⊥
tables-apart words w i j h l e = omega (arith, suc-mul i words, mul-le-mul_right {m = suc i} {n = j} words l)

pub words-apart : (words v w i j : ℕ) → v < words → w < words → (v ≡ w → ⊥) → i * words + v ≡ j * words + w → ⊥
words-apart words v w i j hv hw ne e = ne (sym (digits_mod i hv) ∙ ap (λ (a : ℕ). a % words) e ∙ digits_mod j hw)

module _ (words w word pattern : ℕ) (inside : w < words) (before : List ℕ) where
  module _ (j : ℕ) (after : List ℕ) (r : Marked words j w word pattern before after) where
    untouched : get_or after (j * words + w) 0 ≡ get_or before (j * words + w) 0
    untouched = r.others (j * words + w) (λ i h e. tables-apart words w i j inside h (sym e))

    pub marked-one : (at : ℕ) → at ≡ j * words + w → at < length after →
        Marked words (j + 1) w word pattern before (set after at (bit_or (get_or after at 0) (cond (has_output word j) pattern 0)))
    marked-one at e room =
        let was : get_or after at 0 ≡ get_or before (j * words + w) 0 = ap (λ (p : ℕ). get_or after p 0) e ∙ untouched in
        record {
          marked = λ i h. by_cases (ℕ_discrete i j)
              (λ q. rw (q, ← e) (get_or-set_same after at _ 0 room ∙ ap (λ (a : ℕ). bit_or a (cond (has_output word j) pattern 0)) (was ∙ ap (λ (p : ℕ). get_or before p 0) (sym e))))
              (λ ne. get_or-set_other after at (i * words + w) _ 0 (λ q. tables-apart words w i j inside (omega arith) (q ∙ e)) ∙ r.marked i (omega arith));
          others = λ p h. get_or-set_other after at p _ 0 (λ q. h j (omega arith) (q ∙ e)) ∙ r.others p (λ i l. h i (omega arith));
        }
