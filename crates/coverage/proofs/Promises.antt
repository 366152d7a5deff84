-- The promises about the table of a rule sheet. That the order of the rules does not matter is in Order.
use Prim.Native.Nat.{ℕ, ◌<◌}
use native.Mathlib.Nat.{mod-eq_of_lt}
use native.Mathlib.Omega.{arith}
use mathlib.Core.Path.{◌≡◌, sym, ap, ◌∙◌}
use mathlib.Core.Bool.{Bool, true, false}
use mathlib.Core.Logic.{⊎_elim}
use mathlib.Core.List.{List}
use Rattle.fields.specs.Bounded.{any}
use Rattle.fields.specs.Fields.{fields_of}
use Rattle.fields.proofs.Refusals.{first-yes}
use Rattle.diagram.specs.Diagram.{Input, bit, word_at}
use Rattle.diagram.proofs.Words.{word_same}
use Rattle.table.specs.Table.{diagram_in}
use Rattle.functions.specs.Functions.{is_narrow}
use Rattle.functions.proofs.Canonical.{canonical-accepted, canonical-contacts, canonical-outputs, canonical-value}
use Rattle.functions.proofs.Trees.{Values}
use Rattle.functions.proofs.Wide.{wide, not_narrow}
use Rattle.canonical.proofs.Outcomes.{narrow_number, laid-number, narrow-if, wide-if, tabling-agrees}
use Rattle.rulesheet.specs.Rules.{RuleSheet, rule_sheet_in, has_output}
use Rattle.rulesheet.proofs.Formed.{limited}
use Rattle.coverage.specs.declared.cover.Shares.TheVariants.{Apart}
use Rattle.coverage.specs.declared.cover.Gaps.TheVariants.{Covered}
use Rattle.coverage.specs.Coverage.{fits_rule, word_of_rule, shares_of, gaps_of, ruled_at}
use Rattle.coverage.specs.Service.{functions_in, table_for, rules_refusal}
use Rattle.coverage.specs.Promises.{WellFormed, SharedInput, UnruledInput, Exact, WideRules, TableOfRules, NineteenIfShared, TwentyIfUnruled, SeventeenIfWideRules, OneTableOfRules}
use Rattle.coverage.proofs.Inputs.{ruled-values}
use Rattle.coverage.proofs.Outcomes.{refused-shared, refused-open, refused-wide, tabled}
use Rattle.coverage.proofs.Fitting.{shares, gaps, not-unruled, only-rule, only-value, word_back}

-- The outcomes of a well-formed sheet: 19, 20, or every input fits just one rule and question 17 decides.
abbrev narrow : RuleSheet → Bool
narrow s = is_narrow s.contacts s.outputs (functions_in s)

record Covers (file : List ℕ) : Type 0 where
  pub apart : shares_of (rule_sheet_in file) ≡ Apart
  pub alone : SharedInput (rule_sheet_in file) → ⊥
  pub covered : gaps_of (rule_sheet_in file) ≡ Covered
  pub every : (x : Input) → any (rule_sheet_in file).count (fits_rule (rule_sheet_in file) x) ≡ true
  pub refusal : rules_refusal file ≡ narrow_number (narrow (rule_sheet_in file))

data Outcome (file : List ℕ) : Type 0 where
  nineteen : rules_refusal file ≡ 19 → SharedInput (rule_sheet_in file) → Outcome file
  twenty : rules_refusal file ≡ 20 → (SharedInput (rule_sheet_in file) → ⊥) → UnruledInput (rule_sheet_in file) → Outcome file
  covers : Covers file → Outcome file

outcome : (file : List ℕ) → WellFormed file → Outcome file
outcome file w =
    ⊎_elim (λ (e, x). nineteen (refused-shared file w e) x)
    (λ (apart, alone). ⊎_elim (λ (e, x). twenty (refused-open file w apart e) alone x)
    (λ (covered, every). covers (record {
      apart = apart;
      alone = alone;
      covered = covered;
      every = every;
      refusal = refused-wide file w apart covered ∙ laid-number s.contacts s.outputs (functions_in s);
    })) (gaps s)) (shares s)
  where
    s : RuleSheet
    s = rule_sheet_in file

narrow-number : (b : Bool) → (narrow_number b ≡ 19 → ⊥) × (narrow_number b ≡ 20 → ⊥)
narrow-number true = (λ z. omega arith, λ z. omega arith)
narrow-number false = (λ z. omega arith, λ z. omega arith)

-- A sheet without a refusal, and one whose inputs fit just one rule each.
accepted : (file : List ℕ) → rules_refusal file ≡ 0 → WellFormed file × Covers file
unfolding rules_refusal
accepted file z = let w = (first-yes _ _ z).0 in (w, go (outcome file w))
  where
    go : Outcome file → Covers file
    go (nineteen e x) = absurd (let q = sym e ∙ z in omega arith)
    go (twenty e a x) = absurd (let q = sym e ∙ z in omega arith)
    go (covers c) = c

exact : (file : List ℕ) → Exact file → Covers file
exact file (w, alone, ruled) = go (outcome file w)
  where
    go : Outcome file → Covers file
    go (nineteen e x) = absurd (alone x)
    go (twenty e a x) = absurd (ruled x)
    go (covers c) = c

pub table-of-rules : TableOfRules
table-of-rules file z =
    let s = rule_sheet_in file in
    let n = s.contacts in
    let m = s.outputs in
    let (w, c) = accepted file z in
    let l = limited (fields_of file) w in
    let values : (j : ℕ) → j < m → Values n (ruled_at s j) = λ j h. ruled-values s j in
    let thin = narrow-if (narrow s) (sym c.refusal ∙ z) in
    let outputs = canonical-outputs n m (ruled_at s) l.contacts l.outputs values thin in (
      canonical-accepted n m (ruled_at s) l.contacts l.outputs values thin,
      canonical-contacts n m (ruled_at s) l.contacts l.outputs values thin,
      outputs,
      λ x.
          let (i, only) = only-rule s c.alone x (c.every x) in (
            i,
            only,
            ap (word_at (diagram_in (table_for s)) x) outputs
                ∙ word_same _ _ m (canonical-value n m (ruled_at s) l.contacts l.outputs values thin x)
                ∙ word_same _ _ m (λ j h. only-value s x i j only)
                ∙ word_back (word_of_rule s i) m
                ∙ mod-eq_of_lt (l.word i only.0),
          ),
    )

pub nineteen-if-shared : NineteenIfShared
nineteen-if-shared file w = go (outcome file w)
  where
    s : RuleSheet
    s = rule_sheet_in file

    go : Outcome file → (rules_refusal file ≡ 19 → SharedInput s) × (SharedInput s → rules_refusal file ≡ 19)
    go (nineteen e x) = (λ z. x, λ y. e)
    go (twenty e a x) = (λ z. absurd (let q = sym e ∙ z in omega arith), λ y. absurd (a y))
    go (covers c) = (λ z. absurd ((narrow-number (narrow s)).0 (sym c.refusal ∙ z)), λ y. absurd (c.alone y))

pub twenty-if-unruled : TwentyIfUnruled
twenty-if-unruled file w = go (outcome file w)
  where
    s : RuleSheet
    s = rule_sheet_in file

    go : Outcome file → (rules_refusal file ≡ 20 → (SharedInput s → ⊥) × UnruledInput s)
        × ((SharedInput s → ⊥) → UnruledInput s → rules_refusal file ≡ 20)
    go (nineteen e x) = (λ z. absurd (let q = sym e ∙ z in omega arith), λ a y. absurd (a x))
    go (twenty e a x) = (λ z. (a, x), λ b y. e)
    go (covers c) = (
      λ z. absurd ((narrow-number (narrow s)).1 (sym c.refusal ∙ z)),
      λ a y. absurd (not-unruled s c.every y),
    )

pub seventeen-if-wide-rules : SeventeenIfWideRules
seventeen-if-wide-rules file w = go (outcome file w)
  where
    s : RuleSheet
    s = rule_sheet_in file

    go : Outcome file → (rules_refusal file ≡ 17 → (SharedInput s → ⊥) × (UnruledInput s → ⊥) × WideRules s)
        × ((SharedInput s → ⊥) → (UnruledInput s → ⊥) → WideRules s → rules_refusal file ≡ 17)
    go (nineteen e x) = (λ z. absurd (let q = sym e ∙ z in omega arith), λ a b y. absurd (a x))
    go (twenty e a x) = (λ z. absurd (let q = sym e ∙ z in omega arith), λ a b y. absurd (b x))
    go (covers c) =
        let values : (j : ℕ) → j < s.outputs → Values s.contacts (ruled_at s j) = λ j h. ruled-values s j in (
          λ z. (c.alone, not-unruled s c.every, wide s.contacts s.outputs (ruled_at s) values (wide-if (narrow s) (sym c.refusal ∙ z))),
          λ a b (l, h, nine). c.refusal ∙ ap narrow_number (not_narrow s.contacts s.outputs (ruled_at s) values l h nine),
        )

pub one-table-of-rules : OneTableOfRules
one-table-of-rules file other ef eo contacts outputs words buffer =
    let s = rule_sheet_in file in
    let t = rule_sheet_in other in
    let cf = exact file ef in
    let co = exact other eo in
    let agree : (j : ℕ) → j < s.outputs → (x : Input) → ruled_at s j x ≡ ruled_at t j x = λ j h x.
    let (i, is) = only-rule s cf.alone x (cf.every x) in
    let (k, ks) = only-rule t co.alone x (co.every x) in
    only-value s x i j is ∙ ap (λ (word : ℕ). bit (has_output word j)) (words x i k is ks) ∙ sym (only-value t x k j ks) in
    sym (tabled file buffer ef.0 cf.apart cf.covered)
    ∙ tabling-agrees s.contacts t.contacts s.outputs t.outputs (ruled_at s) (ruled_at t) buffer contacts outputs agree
    ∙ tabled other buffer eo.0 co.apart co.covered
