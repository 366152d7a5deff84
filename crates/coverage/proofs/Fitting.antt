-- Inputs that fit two rules, none or just one, and what questions 19 and 20 say of them.
use Prim.Native.Nat.{ℕ, zero, suc, ◌+◌, ◌*◌, ◌/◌, ◌%◌, ◌^◌, ◌<◌}
use native.Mathlib.Decide.{dec_lt}
use native.Mathlib.Numerals.{one-add}
use native.Mathlib.Omega.{arith}
use mathlib.Core.Path.{◌≡◌, refl, sym, ap, ap₂, ◌∙◌}
use mathlib.Core.Bool.{Bool, true, false, ◌&&◌, cond}
use mathlib.Core.Logic.{◌⊎◌, inl, inr, by_cases}
use lib.Pow.{mod-pow-add}
use Rattle.fields.specs.Bounded.{all, any}
use Rattle.fields.proofs.Bounded.{and_left, and_right, all-at, all_found, any_at, any-not, any_found, none-at}
use Rattle.diagram.specs.Diagram.{Input, bit, input_of, word_of}
use Rattle.diagram.proofs.Inputs.{input_number}
use Rattle.bits.proofs.Bits.{bit-digit}
use Rattle.rulesheet.specs.Rules.{RuleSheet, has_output}
use Rattle.coverage.specs.declared.cover.Shares.TheVariants.{Apart, Shared}
use Rattle.coverage.specs.declared.cover.Gaps.TheVariants.{Covered, Open}
use Rattle.coverage.specs.Coverage.{fits_rule, word_of_rule, fits_two, shares_of, gaps_of, has_rule, ruled_at}
use Rattle.coverage.specs.Promises.{SharedInput, UnruledInput, OnlyRule}
use Rattle.coverage.proofs.Inputs.{two-same, any-fits-same}
use Rattle.coverage.proofs.Covers.{both_ways}

module _ (s : RuleSheet) where
  -- Two rules that an input fits, in either order.
  pub two-found : (x : Input) → fits_two s x s.count ≡ true →
      (i k : ℕ) × (i < k) × (k < s.count) × (fits_rule s x i ≡ true) × (fits_rule s x k ≡ true)
  two-found x e =
      let (k, below, both) = any_found (λ i. fits_rule s x i && any i (fits_rule s x)) s.count e in
      let (i, before, fit) = any_found (fits_rule s x) k (and_right (fits_rule s x k) _ both) in
      (i, k, before, below, fit, and_left (fits_rule s x k) _ both)

  pub two-met : (x : Input) (i k : ℕ) → i < k → k < s.count → fits_rule s x i ≡ true → fits_rule s x k ≡ true → fits_two s x s.count ≡ true
  two-met x i k h g e f = any_at _ s.count k g (ap₂ ◌&&◌ f (any_at (fits_rule s x) k i h e))

  -- Question 19.
  abbrev shared_at : ℕ → Bool
  shared_at a = fits_two s (input_of a) s.count

  pub shares : ((shares_of s ≡ Shared) × SharedInput s) ⊎ ((shares_of s ≡ Apart) × (SharedInput s → ⊥))
  shares = go (any (2 ^ s.contacts) shared_at) refl
    where
      go : (b : Bool) → any (2 ^ s.contacts) shared_at ≡ b →
          ((shares_of s ≡ Shared) × SharedInput s) ⊎ ((shares_of s ≡ Apart) × (SharedInput s → ⊥))
      go true e =
          let (a, below, two) = any_found shared_at (2 ^ s.contacts) e in
          let (i, k, before, few, fi, fk) = two-found (input_of a) two in
          inl (ap (λ (b : Bool). cond b Shared Apart) e, (i, k, input_of a, before, few, fi, fk))
      go false e =
          inr (
            ap (λ (b : Bool). cond b Shared Apart) e,
            λ (i, k, x, before, few, fi, fk).
                let (a, below, same) = input_number x s.contacts in
                let met = two-same s (input_of a) x same s.count ∙ two-met x i k before few fi fk in
                let none = none-at shared_at (2 ^ s.contacts) e a below in
                let f = sym none ∙ met in let z : ◌≡◌ {A = ℕ} 0 1 = cc in omega arith,
          )

  -- Question 20.
  abbrev ruled_by : ℕ → Bool
  ruled_by a = any s.count (fits_rule s (input_of a))

  pub gaps : ((gaps_of s ≡ Open) × UnruledInput s) ⊎ ((gaps_of s ≡ Covered) × ((x : Input) → any s.count (fits_rule s x) ≡ true))
  gaps = go (all (2 ^ s.contacts) ruled_by) refl
    where
      go : (b : Bool) → all (2 ^ s.contacts) ruled_by ≡ b →
          ((gaps_of s ≡ Open) × UnruledInput s) ⊎ ((gaps_of s ≡ Covered) × ((x : Input) → any s.count (fits_rule s x) ≡ true))
      go false e =
          let (a, below, none) = all_found ruled_by (2 ^ s.contacts) e in
          inl (ap (λ (b : Bool). cond b Covered Open) e, (input_of a, none-at (fits_rule s (input_of a)) s.count none))
      go true e =
          inr (
            ap (λ (b : Bool). cond b Covered Open) e,
            λ x.
                let (a, below, same) = input_number x s.contacts in
                sym (any-fits-same s (input_of a) x same s.count) ∙ all-at ruled_by (2 ^ s.contacts) e a below,
          )

  pub not-unruled : ((x : Input) → any s.count (fits_rule s x) ≡ true) → UnruledInput s → ⊥
  not-unruled every (x, none) =
      let f = sym (any-not (fits_rule s x) s.count none) ∙ every x in let z : ◌≡◌ {A = ℕ} 0 1 = cc in omega arith

  -- Just one rule.
  pub only-rule : (SharedInput s → ⊥) → (x : Input) → any s.count (fits_rule s x) ≡ true → (i : ℕ) × OnlyRule s x i
  only-rule apart x e =
      let (i, below, fit) = any_found (fits_rule s x) s.count e in
      (i, (below, fit, λ k h f. one i k below h fit f))
    where
      one : (i k : ℕ) → i < s.count → k < s.count → fits_rule s x i ≡ true → fits_rule s x k ≡ true → k ≡ i
      one i k hi hk fi fk =
          by_cases (dec_lt i k) (λ l. absurd (apart (i, k, x, l, hk, fi, fk)))
          (λ nl. by_cases (dec_lt k i) (λ l. absurd (apart (k, i, x, l, hi, fk, fi))) (λ n. omega arith))

  pub only-value : (x : Input) (i j : ℕ) → OnlyRule s x i → ruled_at s j x ≡ bit (has_output (word_of_rule s i) j)
  only-value x i j (below, fit, only) =
      ap bit (both_ways _ _
      (λ e.
      let (k, h, both) = any_found (has_rule s j x) s.count e in
      let same = only k h (and_left (fits_rule s x k) _ both) in
      rw same at (and_right (fits_rule s x k) (has_output (word_of_rule s k) j) both))
      (λ e. any_at (has_rule s j x) s.count i below (ap₂ ◌&&◌ fit e)))

-- A word is made of its outputs.
pub word_back : (word m : ℕ) → word_of (λ j. bit (has_output word j)) m ≡ word % 2 ^ m
unfolding word_of
word_back word zero = omega arith
word_back word (suc m) =
    let high = bit-digit (word / 2 ^ m % 2) (omega arith) in
    let parts = mod-pow-add word 1 m in
    ap₂ (λ (a b : ℕ). a + b * 2 ^ m) (word_back word m) high ∙ omega (arith, rw (one-add m) at parts)
