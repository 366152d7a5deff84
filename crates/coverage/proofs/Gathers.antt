-- The rules of a sheet gathered one by one, and question 19.
use Prim.Native.Nat.{ℕ, ◌+◌, ◌*◌, ◌-◌, ◌^◌, ◌<◌}
use native.Mathlib.Omega.{arith}
use mathlib.Core.Path.{◌≡◌, refl, sym, ap, ap₂, ◌∙◌}
use mathlib.Core.Bool.{Bool, true, false, ◌&&◌, ◌||◌, cond}
use mathlib.Core.List.{List}
use lib.ListN.{get_or}
use Rattle.fields.specs.Bounded.{any}
use Rattle.fields.proofs.Bounded.{any_none, any_last, any_at, any-not}
use Rattle.diagram.specs.Diagram.{Input, bit, input_of}
use Rattle.diagram.proofs.Inputs.{bit-true, input_number}
use Rattle.bits.specs.Inner.Bits.{bit_of}
use Rattle.bits.proofs.Bits.{bit-zero}
use Rattle.canonical.specs.Inner.Blocks.{input_at}
use Rattle.rulesheet.specs.Rules.{RuleSheet, has_output}
use Rattle.cubes.specs.declared.Cube.{Cube}
use Rattle.coverage.specs.declared.cover.Shares.TheVariants.{Apart, Shared}
use Rattle.coverage.specs.Coverage.{fits_rule, word_of_rule, fits_two, shares_of, has_rule}
use Rattle.cubes.specs.Inner.Cubes.{CubeOf}
use Rattle.coverage.specs.Inner.Gathering.{Added, Meets, Gathered}
use Rattle.coverage.proofs.Inputs.{place_of, two-same}

bit-false : (b : Bool) → bit b ≡ 0 → b ≡ false
bit-false true e = absurd (omega arith)
bit-false false e = refl

module _ (s : RuleSheet) where
  abbrev words : ℕ
  words = 2 ^ (s.contacts - 6)

  -- The input at a bit of a word.
  abbrev at : ℕ → ℕ → Input
  at w k = input_at s.contacts (64 * w + k)

  pub gathered_none : (ruled truths : List ℕ) → ((i : ℕ) → (get_or ruled i 0 ≡ 0) × (get_or truths i 0 ≡ 0)) → Gathered s 0 ruled truths
  gathered_none ruled truths none =
      record {
        some = λ w k h l. ap (bit_of k) (none w).0 ∙ bit-zero k ∙ sym (ap bit (any_none (fits_rule s (at w k))));
        each = λ j w k g h l. ap (bit_of k) (none (j * words + w)).1 ∙ bit-zero k ∙ sym (ap bit (any_none (has_rule s j (at w k))));
        apart = λ w k h l. any_none (λ i. fits_rule s (at w k) i && any i (fits_rule s (at w k)));
      }

  module _ (i : ℕ) (c : Cube) (cube : CubeOf s.contacts (s.rule i) c) (ruled truths : List ℕ) (g : Gathered s i ruled truths) where
    pub gathered-one : {ruled' truths' : List ℕ} → Added words s.outputs c (word_of_rule s i) words ruled truths ruled' truths' →
        Gathered s (i + 1) ruled' truths'
    gathered-one a =
        record {
          some = λ w k h l.
              a.some w k h h l (any i (fits_rule s (at w k))) (g.some w k h l)
              ∙ ap bit (ap (◌||◌ (any i (fits_rule s (at w k)))) (cube.fit w k l) ∙ sym (any_last (fits_rule s (at w k)) i));
          each = λ j w k o h l.
              a.each j w k o h h l (any i (has_rule s j (at w k))) (g.each j w k o h l)
              ∙ ap bit (ap (λ (b : Bool). any i (has_rule s j (at w k)) || (b && has_output (word_of_rule s i) j)) (cube.fit w k l)
              ∙ sym (any_last (has_rule s j (at w k)) i));
          apart = λ w k h l.
              any_last (λ i. fits_rule s (at w k) i && any i (fits_rule s (at w k))) i
              ∙ ap₂ ◌||◌ (g.apart w k h l) (not-both w k h l (fits_rule s (at w k) i) refl);
        }
      where
        not-both : (w k : ℕ) → w < words → k < 64 → (b : Bool) → fits_rule s (at w k) i ≡ b →
            (fits_rule s (at w k) i && any i (fits_rule s (at w k))) ≡ false
        not-both w k h l true e =
            let z = sym (g.some w k h l) ∙ a.apart w k h h l (cube.fit w k l ∙ e) in
            ap₂ ◌&&◌ e (bit-false (any i (fits_rule s (at w k))) z)
        not-both w k h l false e = ap (λ (b : Bool). b && any i (fits_rule s (at w k))) e

    -- An input that fits this rule and one before it.
    pub shared : i < s.count → (w : ℕ) → w < words → Meets c w ruled → Shared ≡ shares_of s
    shared few w h m =
        let k = m.place in
        let l = m.within in
        let x = at w k in
        let this : fits_rule s x i ≡ true = sym (cube.fit w k l) ∙ m.both.0 in
        let before : any i (fits_rule s x) ≡ true = bit-true _ (sym (g.some w k h l) ∙ m.both.1) in
        let two : fits_two s x s.count ≡ true = any_at _ s.count i few (ap₂ ◌&&◌ this before) in
        let (a, below, same) = input_number x s.contacts in
        let met = any_at (λ a. fits_two s (input_of a) s.count) (2 ^ s.contacts) a below (two-same s (input_of a) x same s.count ∙ two) in
        sym (ap (λ (b : Bool). cond b Shared Apart) met)

  -- The same by counts and a rule that are those of the sheet.
  module _ (n m size word i : ℕ) (rule : List ℕ) (c : Cube) (contacts : n ≡ s.contacts) (outputs : m ≡ s.outputs) (sized : size ≡ 2 ^ (s.contacts - 6))
      (same : rule ≡ s.rule i) (cube : CubeOf n rule c × (word ≡ get_or rule n 0)) (ruled truths : List ℕ) (g : Gathered s i ruled truths) where
    own-cube : CubeOf s.contacts (s.rule i) c
    own-cube = rw (← contacts, ← same) cube.0

    own-word : word ≡ word_of_rule s i
    own-word = cube.1 ∙ ap₂ (λ (l : List ℕ) (k : ℕ). get_or l k 0) same contacts

    pub gathered_next : {ruled' truths' : List ℕ} → Added size m c word size ruled truths ruled' truths' → Gathered s (i + 1) ruled' truths'
    gathered_next a = gathered-one i c own-cube ruled truths g (rw (← outputs, ← own-word, ← sized) a)

    pub shared-next : i < s.count → (w : ℕ) × (w < size) × Meets c w ruled → Shared ≡ shares_of s
    shared-next few (w, h, m) = shared i c own-cube ruled truths g few w (rw (← sized) h) m

  -- No input fits two rules.
  pub all_apart : (ruled truths : List ℕ) → Gathered s s.count ruled truths → Apart ≡ shares_of s
  all_apart ruled truths g =
      let none = any-not (λ a. fits_two s (input_of a) s.count) (2 ^ s.contacts) (λ a h.
      let p = place_of s.contacts (input_of a) in
      sym (two-same s (at p.word p.place) (input_of a) p.same s.count) ∙ g.apart p.word p.place p.inside.0 p.inside.1) in
      sym (ap (λ (b : Bool). cond b Shared Apart) none)
