-- The inputs that fit the rules of a sheet, and the outputs' truth tables, 64 to a word, as they are put together rule by rule.
use Rattle.std.specs.Prelude.{ℕ, ◌+◌, ◌*◌, ◌-◌, ◌^◌, ◌≤◌, ◌<◌, ◌≡◌, Bool, true, false, ◌&&◌, ◌||◌, cond, List, eqb, get_or}
use Rattle.std.specs.Int.Bits.{bit_or}
use Rattle.fields.specs.Bounded.{all, any}
use Rattle.diagram.specs.Diagram.{bit}
use Rattle.bits.specs.Inner.Bits.{bit_of}
use Rattle.canonical.specs.Inner.Blocks.{input_at}
use Rattle.cubes.specs.declared.Cube.{Cube}
use Rattle.cubes.specs.Inner.Cubes.{is_in}
use Rattle.rulesheet.specs.Rules.{RuleSheet, has_output}
use Rattle.coverage.specs.declared.cover.Shares.{Shares}
use Rattle.coverage.specs.declared.cover.Shares.TheVariants.{Apart, Shared}
use Rattle.coverage.specs.declared.cover.Gaps.{Gaps}
use Rattle.coverage.specs.declared.cover.Gaps.TheVariants.{Covered, Open}
use Rattle.coverage.specs.Coverage.{fits_rule, fits_two, has_rule}

-- A pattern put into word w of the truth tables that a permit word has, of the first outputs, so many; the rest stays.
pub record Marked (words count w word pattern : ℕ) (before after : List ℕ) : Type 0 where
  pub marked : (j : ℕ) → j < count →
      get_or after (j * words + w) 0 ≡ bit_or (get_or before (j * words + w) 0) (cond (has_output word j) pattern 0)
  pub others : (p : ℕ) → ((j : ℕ) → j < count → p ≡ j * words + w → ⊥) → get_or after p 0 ≡ get_or before p 0

-- A bit that is set where it was, or where a test passes.
abbrev pub Gains : Bool → ℕ → ℕ → Type 0
Gains test before after = (b : Bool) → before ≡ bit b → after ≡ bit (b || test)

-- The inputs of a cube in word v put into the word of those that fit a rule, and into the truth tables of the outputs that its permit word
-- has; none of them was there. The rest stays.
pub record Put (words m : ℕ) (c : Cube) (word v : ℕ) (ruled truths ruled' truths' : List ℕ) : Type 0 where
  pub some : (k : ℕ) → k < 64 → Gains (is_in c v k) (bit_of k (get_or ruled v 0)) (bit_of k (get_or ruled' v 0))
  pub each : (j k : ℕ) → j < m → k < 64 →
      Gains (is_in c v k && has_output word j) (bit_of k (get_or truths (j * words + v) 0)) (bit_of k (get_or truths' (j * words + v) 0))
  pub apart : (k : ℕ) → k < 64 → is_in c v k ≡ true → bit_of k (get_or ruled v 0) ≡ 0
  pub ruled-rest : (w : ℕ) → (w ≡ v → ⊥) → get_or ruled' w 0 ≡ get_or ruled w 0
  pub truths-rest : (j w : ℕ) → j < m → w < words → (w ≡ v → ⊥) → get_or truths' (j * words + w) 0 ≡ get_or truths (j * words + w) 0

-- An input of a cube in word v that was there before.
pub record Meets (c : Cube) (v : ℕ) (ruled : List ℕ) : Type 0 where
  pub place : ℕ
  pub within : place < 64
  pub both : (is_in c v place ≡ true) × (bit_of place (get_or ruled v 0) ≡ 1)

abbrev pub PutIf : Shares → ℕ → ℕ → Cube → ℕ → ℕ → List ℕ → List ℕ → List ℕ → List ℕ → Type 0
PutIf Shared words m c word v ruled truths ruled' truths' = Meets c v ruled
PutIf Apart words m c word v ruled truths ruled' truths' = Put words m c word v ruled truths ruled' truths'

-- The same in the first words, so many; the others are as they were.
pub record Added (words m : ℕ) (c : Cube) (word count : ℕ) (ruled truths ruled' truths' : List ℕ) : Type 0 where
  pub some : (w k : ℕ) → w < words → w < count → k < 64 → Gains (is_in c w k) (bit_of k (get_or ruled w 0)) (bit_of k (get_or ruled' w 0))
  pub each : (j w k : ℕ) → j < m → w < words → w < count → k < 64 →
      Gains (is_in c w k && has_output word j) (bit_of k (get_or truths (j * words + w) 0)) (bit_of k (get_or truths' (j * words + w) 0))
  pub apart : (w k : ℕ) → w < words → w < count → k < 64 → is_in c w k ≡ true → bit_of k (get_or ruled w 0) ≡ 0
  pub ruled-rest : (w : ℕ) → count ≤ w → get_or ruled' w 0 ≡ get_or ruled w 0
  pub truths-rest : (j w : ℕ) → j < m → w < words → count ≤ w → get_or truths' (j * words + w) 0 ≡ get_or truths (j * words + w) 0

abbrev pub AddedIf : Shares → ℕ → ℕ → Cube → ℕ → List ℕ → List ℕ → List ℕ → List ℕ → Type 0
AddedIf Shared words m c word ruled truths ruled' truths' = (w : ℕ) × (w < words) × Meets c w ruled
AddedIf Apart words m c word ruled truths ruled' truths' = Added words m c word words ruled truths ruled' truths'

-- What is worked out after the first rules, so many: which inputs fit one, and the outputs' values; no input fits two of them.
pub record Gathered (s : RuleSheet) (count : ℕ) (ruled truths : List ℕ) : Type 0 where
  pub some : (w k : ℕ) → w < 2 ^ (s.contacts - 6) → k < 64 →
      bit_of k (get_or ruled w 0) ≡ bit (any count (fits_rule s (input_at s.contacts (64 * w + k))))
  pub each : (j w k : ℕ) → j < s.outputs → w < 2 ^ (s.contacts - 6) → k < 64 →
      bit_of k (get_or truths (j * 2 ^ (s.contacts - 6) + w) 0)
      ≡ bit (any count (has_rule s j (input_at s.contacts (64 * w + k))))
  pub apart : (w k : ℕ) → w < 2 ^ (s.contacts - 6) → k < 64 → fits_two s (input_at s.contacts (64 * w + k)) count ≡ false

-- Question 20 by the words of the inputs that fit a rule: is every bit of them set?
abbrev pub is_full : ℕ → Bool
is_full word = all 64 (λ k. eqb (bit_of k word) 1)

abbrev pub gaps_by : List ℕ → ℕ → Gaps
gaps_by ruled words = cond (all words (λ w. is_full (get_or ruled w 0))) Covered Open

-- Where no rule is gathered yet: the size of a truth table and the count of outputs, and no bit is set.
pub record Begun (s : RuleSheet) (words outputs : ℕ) (ruled truths : List ℕ) : Type 0 where
  pub size : words ≡ 2 ^ (s.contacts - 6)
  pub count : outputs ≡ s.outputs
  pub none : (i : ℕ) → (get_or ruled i 0 ≡ 0) × (get_or truths i 0 ≡ 0)
