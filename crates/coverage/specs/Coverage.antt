-- How the rules of a sheet cover the inputs: questions 19 and 20, and the outputs' values.
use Rattle.std.specs.Prelude.{ℕ, ◌^◌, Bool, ◌&&◌, cond}
use Rattle.fields.specs.Bounded.{all, any}
use Rattle.diagram.specs.Diagram.{Input, input_of, bit}
use Rattle.rulesheet.specs.Rules.{RuleSheet, fits, rule_word, has_output}
use Rattle.coverage.specs.declared.cover.Shares.{Shares}
use Rattle.coverage.specs.declared.cover.Shares.TheVariants.{Apart, Shared}
use Rattle.coverage.specs.declared.cover.Gaps.{Gaps}
use Rattle.coverage.specs.declared.cover.Gaps.TheVariants.{Covered, Open}

abbrev pub fits_rule : RuleSheet → Input → ℕ → Bool
fits_rule s x i = fits s.contacts (s.rule i) x

abbrev pub word_of_rule : RuleSheet → ℕ → ℕ
word_of_rule s i = rule_word s.contacts (s.rule i)

-- Whether an input fits two of the first rules, so many: one of them and one before it.
abbrev pub fits_two : RuleSheet → Input → ℕ → Bool
fits_two s x count = any count (λ i. fits_rule s x i && any i (fits_rule s x))

-- 19. Does no input fit two rules? No: 19.
abbrev pub shares_of : RuleSheet → Shares
shares_of s = cond (any (2 ^ s.contacts) (λ a. fits_two s (input_of a) s.count)) Shared Apart

abbrev pub shares_number : Shares → ℕ
shares_number Apart = 0
shares_number Shared = 19

-- 20. Does every input fit a rule? No: 20.
abbrev pub gaps_of : RuleSheet → Gaps
gaps_of s = cond (all (2 ^ s.contacts) (λ a. any s.count (fits_rule s (input_of a)))) Covered Open

abbrev pub gaps_number : Gaps → ℕ
gaps_number Covered = 0
gaps_number Open = 20

-- The value of output j: 1 if some rule that the input fits has it in its word.
abbrev pub has_rule : RuleSheet → ℕ → Input → ℕ → Bool
has_rule s j x i = fits_rule s x i && has_output (word_of_rule s i) j

abbrev pub ruled_at : RuleSheet → ℕ → Input → ℕ
ruled_at s j x = bit (any s.count (has_rule s j x))
