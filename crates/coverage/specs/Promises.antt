-- What from-rules promises: the one table of a sheet whose rules share no input and leave none out.
use Rattle.std.specs.Prelude.{ℕ, ◌<◌, ◌≡◌, true, false, List, length}
use Rattle.fields.specs.Fields.{Item, fields_of, item_in}
use Rattle.diagram.specs.Diagram.{Input, word_at}
use Rattle.table.specs.Promises.{Accepted}
use Rattle.table.specs.Table.{diagram_in}
use Rattle.functions.specs.Functions.{MoreThanEight}
use Rattle.rulesheet.specs.Rules.{RuleSheet, rule_sheet_in, rule_fields, form_of, form_number}
use Rattle.coverage.specs.Coverage.{fits_rule, word_of_rule, ruled_at}
use Rattle.coverage.specs.Service.{table_for, rules_refusal, from_rules_of}

-- A file that question 18 lets through.
abbrev pub WellFormed : List ℕ → Type 0
WellFormed file = form_number (form_of (fields_of file)) ≡ 0

-- Two rules that an input fits.
abbrev pub SharedInput : RuleSheet → Type 0
SharedInput s =
    (i k : ℕ) × (x : Input) × (i < k) × (k < s.count) × (fits_rule s x i ≡ true) × (fits_rule s x k ≡ true)

-- An input that fits no rule.
abbrev pub UnruledInput : RuleSheet → Type 0
UnruledInput s = (x : Input) × ((i : ℕ) → i < s.count → fits_rule s x i ≡ false)

-- The only rule that an input fits.
abbrev pub OnlyRule : RuleSheet → Input → ℕ → Type 0
OnlyRule s x i = (i < s.count) × (fits_rule s x i ≡ true) × ((k : ℕ) → k < s.count → fits_rule s x k ≡ true → k ≡ i)

-- The table is accepted and has the sheet's contacts and outputs. Every input fits just one rule, and the table gives that rule's word
-- there.
abbrev pub TableOfRules : Type 0
TableOfRules =
    (file : List ℕ) → rules_refusal file ≡ 0 → let s = rule_sheet_in file in let t = diagram_in (table_for s) in
    Accepted (table_for s) × (t.contacts ≡ s.contacts) × (t.outputs ≡ s.outputs)
    × ((x : Input) → (i : ℕ) × OnlyRule s x i × (word_at t x t.outputs ≡ word_of_rule s i))

-- 19 is given exactly if two rules share an input.
abbrev pub NineteenIfShared : Type 0
NineteenIfShared =
    (file : List ℕ) → WellFormed file → let s = rule_sheet_in file in
    (rules_refusal file ≡ 19 → SharedInput s) × (SharedInput s → rules_refusal file ≡ 19)

-- 20 is given exactly if no two do and some input fits none.
abbrev pub TwentyIfUnruled : Type 0
TwentyIfUnruled =
    (file : List ℕ) → WellFormed file → let s = rule_sheet_in file in
    (rules_refusal file ≡ 20 → (SharedInput s → ⊥) × UnruledInput s)
    × ((SharedInput s → ⊥) → UnruledInput s → rules_refusal file ≡ 20)

-- 17 is given exactly if every input fits just one rule and fixing the first contacts, for some count of them below n, leaves more than
-- eight different functions over all outputs.
abbrev pub WideRules : RuleSheet → Type 0
WideRules s = (l : ℕ) × (l < s.contacts) × MoreThanEight s.outputs (ruled_at s) l

abbrev pub SeventeenIfWideRules : Type 0
SeventeenIfWideRules =
    (file : List ℕ) → WellFormed file → let s = rule_sheet_in file in
    (rules_refusal file ≡ 17 → (SharedInput s → ⊥) × (UnruledInput s → ⊥) × WideRules s)
    × ((SharedInput s → ⊥) → (UnruledInput s → ⊥) → WideRules s → rules_refusal file ≡ 17)

-- Two sheets that give the same words at every input, with the same contacts and outputs, get one answer, and one table.
abbrev pub SameWordsOfRules : RuleSheet → RuleSheet → Type 0
SameWordsOfRules s t =
    (x : Input) (i k : ℕ) → OnlyRule s x i → OnlyRule t x k → word_of_rule s i ≡ word_of_rule t k

abbrev pub Exact : List ℕ → Type 0
Exact file = WellFormed file × (SharedInput (rule_sheet_in file) → ⊥) × (UnruledInput (rule_sheet_in file) → ⊥)

abbrev pub OneTableOfRules : Type 0
OneTableOfRules =
    (file other : List ℕ) → Exact file → Exact other → let s = rule_sheet_in file in let t = rule_sheet_in other in
    s.contacts ≡ t.contacts → s.outputs ≡ t.outputs → SameWordsOfRules s t →
    (buffer : List ℕ) → from_rules_of file buffer ≡ from_rules_of other buffer

-- The same fields in another order: each stands in the other row, and the other way round.
pub record Rearranged (is js : List Item) : Type 0 where
  pub count : length is ≡ length js
  pub to : ℕ → ℕ
  pub from : ℕ → ℕ
  pub to_in : (i : ℕ) → i < length is → to i < length is
  pub from_in : (i : ℕ) → i < length is → from i < length is
  pub from-to : (i : ℕ) → i < length is → from (to i) ≡ i
  pub to-from : (i : ℕ) → i < length is → to (from i) ≡ i
  pub same : (i : ℕ) → i < length is → item_in js (to i) ≡ item_in is i

-- The order of the rules does not matter, well formed or not.
abbrev pub OrderOfRules : Type 0
OrderOfRules =
    (file other : List ℕ) → let is = (fields_of file).items in let js = (fields_of other).items in
    (fields_of file).framing ≡ (fields_of other).framing → item_in is 0 ≡ item_in js 0 → item_in is 1 ≡ item_in js 1 →
    Rearranged (rule_fields is) (rule_fields js) →
    (buffer : List ℕ) → from_rules_of file buffer ≡ from_rules_of other buffer
