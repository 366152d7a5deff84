-- Question 20 by the words of the inputs that fit a rule.
use Prim.Native.Nat.{ℕ, ◌*◌, ◌+◌, ◌-◌, ◌^◌, ◌≤◌, ◌<◌}
use native.Mathlib.Omega.{arith}
use mathlib.Core.Path.{◌≡◌, refl, sym, ap, ◌∙◌}
use mathlib.Core.Bool.{Bool, true, false, cond}
use mathlib.Core.List.{List}
use borrow.Author.Tests.{eq-eqb, eqb-true, eqb-false}
use lib.Dec.{eqb}
use lib.ListN.{length, get_or, take}
use Rattle.std.specs.List.{list_all}
use Rattle.std.proofs.lemmas.List.{length-take-le, get_or-take}
use lib.Seq.{take-length}
use Rattle.fields.specs.Bounded.{all, any}
use Rattle.fields.proofs.Bounded.{all-at, all_of, all-agree}
use Rattle.diagram.specs.Diagram.{bit, input_of}
use Rattle.diagram.proofs.Inputs.{bit-true, input_number}
use Rattle.bits.specs.Inner.Bits.{bit_of}
use Rattle.bits.proofs.Bits.{ones, bit-ones, bits-same}
use Rattle.canonical.specs.Inner.Blocks.{input_at}
use Rattle.rulesheet.specs.Rules.{RuleSheet}
use Rattle.rulesheet.proofs.Forms.{all_listed}
use Rattle.coverage.specs.declared.cover.Gaps.TheVariants.{Covered, Open}
use Rattle.coverage.specs.Coverage.{fits_rule, gaps_of}
use Rattle.coverage.specs.Inner.Gathering.{Gathered, is_full, gaps_by}
use Rattle.coverage.proofs.Inputs.{place_of, any-fits-same}

pub both_ways : (a b : Bool) → (a ≡ true → b ≡ true) → (b ≡ true → a ≡ true) → a ≡ b
both_ways true b f g = sym (f refl)
both_ways false true f g = g refl
both_ways false false f g = refl

-- A word of which every bit is set.
pub full-word : (word : ℕ) → word ≡ ones → is_full word ≡ true
full-word word e = all_of _ 64 (λ k l. eq-eqb (bit_of k word) 1 (ap (bit_of k) e ∙ bit-ones k l))

pub not_full : (word : ℕ) → word < 2 ^ 64 → (word ≡ ones → ⊥) → is_full word ≡ false
not_full word small ne = go (is_full word) refl
  where
    go : (b : Bool) → is_full word ≡ b → is_full word ≡ false
    go true e =
        absurd (ne (bits-same 64 word ones small (omega arith) (λ k l.
        eqb-true (bit_of k word) 1 (all-at (λ k. eqb (bit_of k word) 1) 64 e k l) ∙ sym (bit-ones k l))))
    go false e = e

full-test : (word : ℕ) → word < 2 ^ 64 → eqb word ones ≡ is_full word
full-test word small =
    both_ways _ _ (λ e. full-word word (eqb-true word ones e))
    (λ e. go (eqb word ones) refl e)
  where
    go : (b : Bool) → eqb word ones ≡ b → is_full word ≡ true → eqb word ones ≡ true
    go true t e = t
    go false t e = absurd (let z : true ≡ false = sym e ∙ not_full word small (eqb-false word ones t) in let y : ◌≡◌ {A = ℕ} 0 1 = cc in omega arith)

-- Words that are all ones, one after the other.
pub all-full : (words : List ℕ) → ((i : ℕ) → get_or words i 0 < 2 ^ 64) →
    list_all (λ w. eqb w ones) words ≡ all (length words) (λ i. is_full (get_or words i 0))
all-full words small =
    ap (list_all (λ w. eqb w ones)) (sym (take-length words)) ∙ all_listed (λ w. eqb w ones) words (length words) (omega arith)
    ∙ all-agree (length words) _ _ (λ i l. full-test (get_or words i 0) (small i))

pub first-full : (words : List ℕ) (n : ℕ) → n ≤ length words →
    all (length (take n words)) (λ i. is_full (get_or (take n words) i 0)) ≡ all n (λ i. is_full (get_or words i 0))
first-full words n h =
    ap (λ (k : ℕ). all k (λ i. is_full (get_or (take n words) i 0))) (length-take-le n words h)
    ∙ all-agree n _ _ (λ i l. ap is_full (get_or-take n words i 0 l))

module _ (s : RuleSheet) (ruled truths : List ℕ) (g : Gathered s s.count ruled truths) where
  abbrev full_at : ℕ → Bool
  full_at w = is_full (get_or ruled w 0)

  abbrev is_ruled : ℕ → Bool
  is_ruled a = any s.count (fits_rule s (input_of a))

  abbrev n : ℕ
  n = s.contacts

  ruled-if : all (2 ^ (n - 6)) full_at ≡ true → all (2 ^ n) is_ruled ≡ true
  ruled-if e =
      all_of is_ruled (2 ^ n) (λ a h.
      let p = place_of n (input_of a) in
      let full = all-at full_at (2 ^ (n - 6)) e p.word p.inside.0 in
      let one = eqb-true _ _ (all-at (λ k. eqb (bit_of k (get_or ruled p.word 0)) 1) 64 full p.place p.inside.1) in
      sym (any-fits-same s (input_at n (64 * p.word + p.place)) (input_of a) p.same s.count)
      ∙ bit-true _ (sym (g.some p.word p.place p.inside.0 p.inside.1) ∙ one))

  full-if : all (2 ^ n) is_ruled ≡ true → all (2 ^ (n - 6)) full_at ≡ true
  full-if e =
      all_of full_at (2 ^ (n - 6)) (λ w h. all_of _ 64 (λ k l.
      let x = input_at n (64 * w + k) in
      let (a, below, same) = input_number x n in
      eq-eqb (bit_of k (get_or ruled w 0)) 1
      (g.some w k h l ∙ ap bit (sym (any-fits-same s (input_of a) x same s.count) ∙ all-at is_ruled (2 ^ n) e a below))))

  pub gaps-are : gaps_by ruled (2 ^ (n - 6)) ≡ gaps_of s
  gaps-are = ap (λ (b : Bool). cond b Covered Open) (both_ways _ _ ruled-if full-if)
