-- Inputs and rules: a rule looks at the contacts below n alone, so every input is one of the numbered ones, and one of those at the bits
-- of the words.
use Prim.Native.Nat.{ℕ, suc, ◌+◌, ◌*◌, ◌-◌, ◌/◌, ◌%◌, ◌^◌, ◌<◌}
use native.Mathlib.Omega.{arith}
use mathlib.Core.Path.{◌≡◌, ap, ap₂, ◌∙◌}
use mathlib.Core.Bool.{Bool, ◌&&◌}
use lib.ListN.{get_or}
use Rattle.fields.specs.Bounded.{any}
use Rattle.fields.proofs.Bounded.{all-agree, any-agree}
use Rattle.diagram.specs.Diagram.{Input, bit, input_of}
use Rattle.diagram.proofs.Inputs.{input_number}
use Rattle.functions.proofs.Trees.{Values}
use Rattle.bits.proofs.Bits.{bit-lt}
use Rattle.canonical.specs.Inner.Blocks.{input_at}
use Rattle.rows.proofs.Rows.{words-enough}
use Rattle.rulesheet.specs.Rules.{RuleSheet, accepts, has_output}
use Rattle.coverage.specs.Coverage.{fits_rule, word_of_rule, fits_two, has_rule, ruled_at}

-- Two inputs with the same values of the first n contacts.
abbrev pub Agree : ℕ → Input → Input → Type 0
Agree n x y = (i : ℕ) → i < n → x i ≡ y i

module _ (s : RuleSheet) (x y : Input) (same : Agree s.contacts x y) where
  pub fits-same : (i : ℕ) → fits_rule s x i ≡ fits_rule s y i
  fits-same i = all-agree s.contacts _ _ (λ k h. ap (accepts (get_or (s.rule i) k 0)) (same k h))

  pub any-fits-same : (count : ℕ) → any count (fits_rule s x) ≡ any count (fits_rule s y)
  any-fits-same count = any-agree count _ _ (λ i h. fits-same i)

  pub two-same : (count : ℕ) → fits_two s x count ≡ fits_two s y count
  two-same count = any-agree count _ _ (λ i h. ap₂ ◌&&◌ (fits-same i) (any-fits-same i))

pub ruled-values : (s : RuleSheet) (j : ℕ) → Values s.contacts (ruled_at s j)
ruled-values s j =
    record {
      first = λ x y same. ap bit (any-agree s.count _ _ (λ i h. ap (λ (b : Bool). b && has_output (word_of_rule s i) j) (fits-same s x y same i)));
      bit = λ x. bit-lt (any s.count (has_rule s j x));
    }

-- The bit at which an input stands.
pub record Place (n : ℕ) (x : Input) : Type 0 where
  pub word : ℕ
  pub place : ℕ
  pub inside : (word < 2 ^ (n - 6)) × (place < 64)
  pub same : Agree n (input_at n (64 * word + place)) x

pub place_of : (n : ℕ) (x : Input) → Place n x
place_of n x =
    let (q, below, e) = input_number (λ i. x (n - suc i)) n in
    let whole : 64 * (q / 64) + q % 64 ≡ q = omega arith in
    record {
      word = q / 64;
      place = q % 64;
      inside = (omega (arith, below, (words-enough n).0), omega arith);
      same = λ i h.
          let back : n - suc (n - suc i) ≡ i = omega arith in
          ap (λ (p : ℕ). input_of p (n - suc i)) whole ∙ e (n - suc i) (omega arith) ∙ ap x back;
    }
