-- What from-rules returns and leaves, by the answers to its questions.
use Prim.Native.Nat.{ℕ}
use native.Mathlib.Omega.{arith}
use mathlib.Core.Path.{◌≡◌, sym, ap, ◌∙◌}
use mathlib.Core.List.{List, [], ◌∷◌}
use Rattle.fields.specs.Fields.{fields_of}
use Rattle.fields.specs.Refusals.{first_no}
use Rattle.fields.proofs.Refusals.{first-no, first_next, first-only}
use Rattle.files.specs.Room.{written, writing_of}
use Rattle.files.proofs.Writing.{refused-before}
use Rattle.canonical.specs.Service.{laid_of, laid_number, tabling_of}
use Rattle.std.specs.Prelude.{None, Err}
use Rattle.files.specs.declared.refusal.Refusal.{Refusal}
use Rattle.files.specs.Refusals.{number_of}
use Rattle.rulesheet.specs.Rules.{RuleSheet, rule_sheet_in, form_of, form_number}
use Rattle.coverage.specs.declared.cover.Shares.TheVariants.{Apart, Shared}
use Rattle.coverage.specs.declared.cover.Gaps.TheVariants.{Covered, Open}
use Rattle.coverage.specs.Coverage.{shares_of, shares_number, gaps_of, gaps_number}
use Rattle.coverage.specs.Service.{functions_in, table_for, rules_refusal, from_rules_of}
use Rattle.coverage.specs.Promises.{WellFormed}

module _ (file : List ℕ) where
  abbrev s : RuleSheet
  s = rule_sheet_in file

  abbrev wide : ℕ
  wide = laid_number (laid_of s.contacts s.outputs (functions_in s))

  pub refused-form : form_of (fields_of file) ≡ None → rules_refusal file ≡ 18
  unfolding rules_refusal
  refused-form e =
      let n : form_number (form_of (fields_of file)) ≡ 18 = ap form_number e in
      first-no _ _ (λ z. omega arith) ∙ n

  module _ (w : WellFormed file) where
    rest : rules_refusal file ≡ first_no (shares_number (shares_of s) ∷ gaps_number (gaps_of s) ∷ wide ∷ [])
    unfolding rules_refusal
    rest = first_next _ _ w

    pub refused-shared : shares_of s ≡ Shared → rules_refusal file ≡ 19
    refused-shared e =
        let n : shares_number (shares_of s) ≡ 19 = ap shares_number e in
        rest ∙ first-no _ _ (λ z. omega arith) ∙ n

    module _ (apart : shares_of s ≡ Apart) where
      rest-apart : rules_refusal file ≡ first_no (gaps_number (gaps_of s) ∷ wide ∷ [])
      rest-apart = rest ∙ first_next _ _ (ap shares_number apart)

      pub refused-open : gaps_of s ≡ Open → rules_refusal file ≡ 20
      refused-open e =
          let n : gaps_number (gaps_of s) ≡ 20 = ap gaps_number e in
          rest-apart ∙ first-no _ _ (λ z. omega arith) ∙ n

      pub refused-wide : gaps_of s ≡ Covered → rules_refusal file ≡ wide
      refused-wide e = rest-apart ∙ first_next _ _ (ap gaps_number e) ∙ first-only wide

  module _ (buffer : List ℕ) where
    -- A refusal before question 17.
    pub refused-by : (r : Refusal) → rules_refusal file ≡ number_of r → written (Err r) buffer ≡ from_rules_of file buffer
    unfolding from_rules_of
    refused-by r e = refused-before (table_for s) buffer r (sym e)

    -- The table of its functions.
    pub tabled : WellFormed file → shares_of s ≡ Apart → gaps_of s ≡ Covered →
        tabling_of s.contacts s.outputs (functions_in s) buffer ≡ from_rules_of file buffer
    unfolding tabling_of from_rules_of
    tabled w a c = ap (λ (k : ℕ). writing_of k (table_for s) buffer) (sym (refused-wide w a c))
