-- A well-formed sheet: its limits, each rule as a walk finds it, and what is written once all are gathered.
use Prim.Native.Nat.{ℕ, zero, suc, ◌*◌, ◌-◌, ◌%◌, ◌^◌, ◌≤◌, ◌<◌}
use native.Mathlib.Omega.{arith}
use mathlib.Core.Path.{◌≡◌, refl, ap, ap₂, ◌∙◌}
use mathlib.Core.List.{List, []}
use lib.ListN.{length, get_or, replicate, get_or-map, length-map}
use denote.Ref.{Bor}
use Rattle.std.specs.Iterator.{YieldsFirstBy}
use Rattle.std.proofs.lemmas.Iterator.{YieldsList}
use Rattle.std.proofs.lemmas.Iterator.Consumers.{YieldsList-from_first}
use Rattle.std.proofs.lemmas.List.{get_or_default}
use Rattle.fields.specs.Fields.{Item, fields_of}
use Rattle.bits.proofs.Bits.{bits-of}
use Rattle.canonical.specs.Service.{tabling_of}
use Rattle.rows.specs.Inner.Rows.{row_at}
use Rattle.rows.proofs.Rows.{words-few, rows-tabled}
use Rattle.rulesheet.specs.declared.sheet.Sheet.{Sheet}
use Rattle.rulesheet.specs.declared.sheet.Rules.{Rules}
use Rattle.rulesheet.specs.Rules.{RuleSheet, rule_sheet_in, rule_fields}
use Rattle.rulesheet.specs.Inner.Form.{rules_from, rules_in}
use Rattle.rulesheet.proofs.Formed.{Limited, limited}
use Rattle.coverage.specs.declared.cover.Shares.TheVariants.{Apart}
use Rattle.coverage.specs.declared.cover.Gaps.TheVariants.{Covered}
use Rattle.coverage.specs.Coverage.{shares_of, gaps_of, ruled_at}
use Rattle.coverage.specs.Service.{from_rules_of}
use Rattle.coverage.specs.Inner.Gathering.{Gathered}
use Rattle.coverage.proofs.Inputs.{ruled-values}
use Rattle.coverage.proofs.Outcomes.{tabled}

module _ (sheet : Sheet) where
  abbrev file : List ℕ
  file = sheet.file.now

  abbrev s : RuleSheet
  s = rule_sheet_in file

  pub sheet-limited : Limited s
  sheet-limited = limited (fields_of file) sheet.formed

  -- The size of a truth table, by a shift.
  pub words-are : (fixed : ℕ) → fixed ≡ sheet.contacts - 6 → (1 * 2 ^ fixed % 2 ^ 64 ≡ 2 ^ (sheet.contacts - 6)) × (2 ^ (sheet.contacts - 6) ≤ 64)
  words-are fixed e =
      (bits-of fixed (omega (arith, e, sheet-limited.contacts.1, sheet.counted.0)) ∙ ap (◌^◌ 2) e, words-few sheet.contacts (omega (arith, sheet-limited.contacts.1, sheet.counted.0)))

  -- Its rules, one after the other.
  pub count-is : length (rules_in file) ≡ s.count
  count-is = length-map (rule_fields (fields_of file).items) (λ (i : Item). i.value)

  pub rule-at : (i : ℕ) {rule : List ℕ} → (i < length (rules_in file)) × (rule ≡ get_or (rules_in file) i rule) → rule ≡ s.rule i
  rule-at i {rule} (few, e) =
      e ∙ get_or_default (rules_in file) i rule [] few ∙ get_or-map (λ (i : Item). i.value) (rule_fields (fields_of file).items) i _

  pub road : {items it : Rules} → it ≡ items → rules_from items.file.now items.at ≡ rules_in file →
      YieldsList (YieldsFirstBy (λ y. y.now) (λ (r : Rules). rules_from r.file.now r.at)) (λ (y : Bor (List ℕ)). y.now) it (rules_in file)
  road same e =
      YieldsList-from_first (λ y. y.now) (λ (r : Rules). rules_from r.file.now r.at) (rules_in file)
      (ap (λ (r : Rules). rules_from r.file.now r.at) same ∙ e)

  pub written_by : (ruled truths : List ℕ) → Gathered s s.count ruled truths → (buffer : List ℕ) → shares_of s ≡ Apart → gaps_of s ≡ Covered →
      tabling_of sheet.contacts sheet.outputs (row_at truths sheet.contacts) buffer ≡ from_rules_of file buffer
  written_by ruled truths g buffer a c =
      ap₂ (λ (n m : ℕ). tabling_of n m (row_at truths n) buffer) sheet.counted.0 sheet.counted.1
      ∙ rows-tabled s.contacts s.outputs (ruled_at s) truths (λ j h. ruled-values s j)
      (record { held = λ j w h l. record { bits = λ k b. g.each j w k h l b } }) buffer
      ∙ tabled file buffer sheet.formed a c

-- A buffer that was never written.
pub zero-at : (n i : ℕ) → ◌≡◌ {A = ℕ} (get_or (replicate n 0) i 0) 0
zero-at zero i = refl
zero-at (suc n) zero = refl
zero-at (suc n) (suc i) = zero-at n i
