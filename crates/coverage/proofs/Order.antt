-- The order of the rules does not matter.
use Prim.Native.Nat.{ℕ, ◌^◌, ◌<◌}
use native.Mathlib.Decide.{dec_lt}
use native.Mathlib.Omega.{arith}
use mathlib.Core.Path.{◌≡◌, refl, sym, ap, ap₂, ◌∙◌, fun_ext}
use mathlib.Core.Bool.{Bool, true, ◌&&◌, cond}
use mathlib.Core.Logic.{by_cases}
use mathlib.Core.List.{List, [], ◌∷◌}
use lib.Dec.{eqb}
use lib.ListN.{length, get_or}
use Rattle.fields.specs.Bounded.{all, any}
use Rattle.fields.specs.Fields.{Item, Fields, fields_of, item_in}
use Rattle.fields.specs.Refusals.{framing_number, between, first_no}
use Rattle.fields.proofs.Bounded.{all-at, all_of, all-agree, any_at, any_found, any-agree}
use Rattle.files.specs.Header.{contacts_in, contacts_number, contacts_of}
use Rattle.files.specs.Room.{writing_of}
use Rattle.files.proofs.Counts.{contacts-first}
use Rattle.diagram.specs.Diagram.{Input, bit, input_of}
use Rattle.table.specs.Encode.{bytes_of}
use Rattle.functions.specs.Functions.{functions_of, canonical}
use Rattle.canonical.specs.Service.{laid_of, laid_number}
use Rattle.std.specs.Prelude.{Some, None}
use Rattle.rulesheet.specs.Rules.{RuleSheet, rule_sheet_of, rule_fields, fits, rule_word, has_output, is_outputs, is_rule, are_rules, form_of, form_number}
use Rattle.coverage.specs.declared.cover.Shares.TheVariants.{Apart, Shared}
use Rattle.coverage.specs.declared.cover.Gaps.TheVariants.{Covered, Open}
use Rattle.coverage.specs.Coverage.{fits_rule, fits_two, shares_of, shares_number, gaps_of, gaps_number, ruled_at}
use Rattle.coverage.specs.Service.{rules_refusal, from_rules_of}
use Rattle.coverage.specs.Promises.{Rearranged, OrderOfRules}
use Rattle.coverage.proofs.Covers.{both_ways}
use Rattle.coverage.proofs.Fitting.{two-found, two-met}

-- The other way round.
reversed : (is js : List Item) → Rearranged is js → Rearranged js is
reversed is js r =
    record {
      count = sym r.count;
      to = r.from;
      from = r.to;
      to_in = λ i h. omega (arith, r.from_in i (omega (arith, r.count)), r.count);
      from_in = λ i h. omega (arith, r.to_in i (omega (arith, r.count)), r.count);
      from-to = λ i h. r.to-from i (omega (arith, r.count));
      to-from = λ i h. r.from-to i (omega (arith, r.count));
      same = λ i h.
          let inside : i < length is = omega (arith, r.count) in
          sym (r.same (r.from i) (r.from_in i inside)) ∙ ap (item_in js) (r.to-from i inside);
    }

-- Tests of the fields, in either order.
module _ (is js : List Item) (r : Rearranged is js) (p : Item → Bool) where
  any-into : any (length is) (λ i. p (item_in is i)) ≡ true → any (length js) (λ i. p (item_in js i)) ≡ true
  any-into e =
      let (i, h, t) = any_found (λ i. p (item_in is i)) (length is) e in
      any_at (λ i. p (item_in js i)) (length js) (r.to i) (omega (arith, r.to_in i h, r.count)) (ap p (r.same i h) ∙ t)

  all_from : all (length js) (λ i. p (item_in js i)) ≡ true → all (length is) (λ i. p (item_in is i)) ≡ true
  all_from e =
      all_of (λ i. p (item_in is i)) (length is) (λ i h.
      sym (ap p (r.same i h)) ∙ all-at (λ i. p (item_in js i)) (length js) e (r.to i) (omega (arith, r.to_in i h, r.count)))

any-over : (is js : List Item) → Rearranged is js → (p : Item → Bool) →
    any (length is) (λ i. p (item_in is i)) ≡ any (length js) (λ i. p (item_in js i))
any-over is js r p = both_ways _ _ (any-into is js r p) (any-into js is (reversed is js r) p)

all-over : (is js : List Item) → Rearranged is js → (p : Item → Bool) →
    all (length is) (λ i. p (item_in is i)) ≡ all (length js) (λ i. p (item_in js i))
all-over is js r p = both_ways _ _ (all_from js is (reversed is js r) p) (all_from is js r p)

-- Two rules that an input fits are two in either order.
two-into : (is js : List Item) → contacts_of is ≡ contacts_of js → Rearranged (rule_fields is) (rule_fields js) → (x : Input) →
    let s = rule_sheet_of is in let t = rule_sheet_of js in fits_two s x s.count ≡ true → fits_two t x t.count ≡ true
two-into is js n r x e =
    let (i, k, before, below, fi, fk) = two-found (rule_sheet_of is) x e in
    let few : i < length (rule_fields is) = omega arith in
    let fit : (i : ℕ) → i < length (rule_fields is) → fits_rule (rule_sheet_of is) x i ≡ true → fits_rule (rule_sheet_of js) x (r.to i) ≡ true =
    λ i h f. ap₂ (λ (n : ℕ) (i : Item). fits n i.value x) (sym n) (r.same i h) ∙ f in
    let ti = r.to_in i few in
    let tk = r.to_in k below in
    by_cases (dec_lt (r.to i) (r.to k))
    (λ l. two-met (rule_sheet_of js) x (r.to i) (r.to k) l (omega (arith, r.count)) (fit i few fi) (fit k below fk))
    (λ nl. by_cases (dec_lt (r.to k) (r.to i))
    (λ l. two-met (rule_sheet_of js) x (r.to k) (r.to i) l (omega (arith, r.count)) (fit k below fk) (fit i few fi))
    (λ ng.
    let equal : r.to i ≡ r.to k = omega arith in
    let same = sym (r.from-to i few) ∙ ap r.from equal ∙ r.from-to k below in
    absurd (omega arith)))

module _ (is js : List Item) (first : item_in is 0 ≡ item_in js 0) (second : item_in is 1 ≡ item_in js 1)
    (r : Rearranged (rule_fields is) (rule_fields js)) where
  abbrev s : RuleSheet
  s = rule_sheet_of is

  abbrev t : RuleSheet
  t = rule_sheet_of js

  contacts-same : s.contacts ≡ t.contacts
  contacts-same = ap (λ (i : Item). get_or i.value 0 0) first

  outputs-same : s.outputs ≡ t.outputs
  outputs-same = ap (λ (i : Item). get_or i.value 0 0) second

  head-same : contacts_in is ≡ contacts_in js
  head-same = sym (contacts-first is refl refl) ∙ contacts-first js refl first

  rules-same : are_rules s.contacts s.outputs (rule_fields is) ≡ are_rules t.contacts t.outputs (rule_fields js)
  rules-same =
      ap₂ (λ (n m : ℕ). are_rules n m (rule_fields is)) contacts-same outputs-same
      ∙ ap₂ ◌&&◌ (ap (λ (k : ℕ). between 1 k 64) r.count)
      (all-over (rule_fields is) (rule_fields js) r (is_rule t.contacts t.outputs))

  shares-same : shares_of s ≡ shares_of t
  shares-same =
      ap (λ (b : Bool). cond b Shared Apart)
      (any-agree (2 ^ s.contacts) _ _ (λ a h. both_ways _ _ (two-into is js contacts-same r (input_of a))
      (two-into js is (sym contacts-same) (reversed (rule_fields is) (rule_fields js) r) (input_of a)))
      ∙ ap (λ (n : ℕ). any (2 ^ n) (λ a. fits_two t (input_of a) t.count)) contacts-same)

  some_same : (x : Input) → any s.count (fits_rule s x) ≡ any t.count (fits_rule t x)
  some_same x =
      any-over (rule_fields is) (rule_fields js) r (λ i. fits s.contacts i.value x)
      ∙ ap (λ (n : ℕ). any t.count (λ i. fits n (t.rule i) x)) contacts-same

  gaps-same : gaps_of s ≡ gaps_of t
  gaps-same =
      ap (λ (b : Bool). cond b Covered Open)
      (all-agree (2 ^ s.contacts) _ _ (λ a h. some_same (input_of a))
      ∙ ap (λ (n : ℕ). all (2 ^ n) (λ a. any t.count (fits_rule t (input_of a)))) contacts-same)

  values_same : ruled_at s ≡ ruled_at t
  values_same =
      fun_ext (λ j. fun_ext (λ x.
      ap bit
      (any-over (rule_fields is) (rule_fields js) r (λ i. fits s.contacts i.value x && has_output (rule_word s.contacts i.value) j)
      ∙ ap (λ (n : ℕ). any t.count (λ i. fits n (t.rule i) x && has_output (rule_word n (t.rule i)) j)) contacts-same)))

forms-same : (fs gs : Fields) → fs.framing ≡ gs.framing → item_in fs.items 0 ≡ item_in gs.items 0 →
    item_in fs.items 1 ≡ item_in gs.items 1 → Rearranged (rule_fields fs.items) (rule_fields gs.items) → form_of fs ≡ form_of gs
unfolding form_of
forms-same fs gs f first second r = λ i.
    cond
    (eqb (framing_number (f i)) 0
    && eqb (contacts_number (head-same fs.items gs.items first second r i)) 0
    && is_outputs (second i)
    && rules-same fs.items gs.items first second r i)
    (Some (record {
      contacts = contacts-same fs.items gs.items first second r i;
      outputs = outputs-same fs.items gs.items first second r i;
      count = r.count i;
    }))
    None

pub order-of-rules : OrderOfRules
unfolding from_rules_of rules_refusal
order-of-rules file other f first second r buffer = λ i.
    let is = (fields_of file).items in
    let js = (fields_of other).items in
    let n = contacts-same is js first second r i in
    let m = outputs-same is js first second r i in
    let v = values_same is js first second r i in
    writing_of
    (first_no
    (form_number (forms-same (fields_of file) (fields_of other) f first second r i)
    ∷ shares_number (shares-same is js first second r i)
    ∷ gaps_number (gaps-same is js first second r i)
    ∷ laid_number (laid_of n m (functions_of n v))
    ∷ []))
    (bytes_of (canonical n m (functions_of n v)))
    buffer
