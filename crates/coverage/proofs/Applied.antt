-- The definitions at small sheets, by computation: rules that share an input, with equal words, too; rules that leave one out; both; and
-- contact 0 first, output 0 of the lowest weight.
use Prim.Native.Nat.{ℕ}
use mathlib.Core.Path.{◌≡◌, refl}
use mathlib.Core.List.{List, [], ◌∷◌}
use lib.ListN.{length, get_or}
use Rattle.fields.specs.Bounded.{all, any}
use Rattle.fields.specs.Fields.{raw_step_at, value_of, raw_fields_within, raw_fields_from, but_notes, fields_from, fields_of}
use Rattle.fields.specs.Refusals.{first_no}
use Rattle.files.specs.Header.{contacts_in}
use Rattle.diagram.specs.Diagram.{input_of}
use Rattle.rulesheet.specs.Rules.{RuleSheet, form_of}
use Rattle.coverage.specs.declared.cover.Shares.TheVariants.{Apart, Shared}
use Rattle.coverage.specs.declared.cover.Gaps.TheVariants.{Covered, Open}
use Rattle.coverage.specs.Coverage.{shares_of, gaps_of, ruled_at}
use Rattle.coverage.specs.Service.{rules_refusal}

-- Two contacts and two outputs.
abbrev sheet : List (List ℕ) → RuleSheet
sheet rules = record { contacts = 2; outputs = 2; count = length rules; rule = λ i. get_or rules i [] }

equal-words-share : shares_of (sheet ((0 ∷ 2 ∷ 1 ∷ []) ∷ (2 ∷ 0 ∷ 1 ∷ []) ∷ (1 ∷ 1 ∷ 0 ∷ []) ∷ [])) ≡ Shared
unfolding all any input_of
equal-words-share = refl

one-left-out : gaps_of (sheet ((0 ∷ 2 ∷ 1 ∷ []) ∷ (1 ∷ 0 ∷ 1 ∷ []) ∷ [])) ≡ Open
unfolding all any input_of
one-left-out = refl

-- Contact 0 closed gives output 0 alone, else contact 1 output 1.
abbrev three : RuleSheet
three = sheet ((1 ∷ 2 ∷ 1 ∷ []) ∷ (0 ∷ 0 ∷ 0 ∷ []) ∷ (0 ∷ 1 ∷ 2 ∷ []) ∷ [])

just-one : (shares_of three ≡ Apart) × (gaps_of three ≡ Covered)
unfolding all any input_of
just-one = (refl, refl)

-- Input 1 has contact 0 closed, input 2 contact 1.
words-there : (ruled_at three 0 (input_of 1) ≡ 1) × (ruled_at three 1 (input_of 1) ≡ 0) × (ruled_at three 0 (input_of 2) ≡ 0) × (ruled_at three 1 (input_of 2) ≡ 1)
unfolding all any input_of
words-there = (refl, refl, refl, refl)

-- Input 0 fits two rules, input 1 none: 19.
nineteen-first : rules_refusal (1 ∷ 0 ∷ 1 ∷ 2 ∷ 8 ∷ 0 ∷ 1 ∷ 1 ∷ 9 ∷ 0 ∷ 3 ∷ 0 ∷ 2 ∷ 1 ∷ 9 ∷ 0 ∷ 3 ∷ 0 ∷ 0 ∷ 1 ∷ []) ≡ 19
unfolding all any input_of raw_step_at value_of raw_fields_within raw_fields_from but_notes fields_from fields_of first_no contacts_in form_of rules_refusal
nineteen-first = refl
