-- What a yes to question 18 says of a file.
use Prim.Native.Nat.{ℕ, ◌+◌, ◌^◌, ◌≤◌, ◌<◌}
use native.Mathlib.Omega.{arith}
use mathlib.Core.Path.{◌≡◌, refl, ap}
use mathlib.Core.Bool.{Bool, true, false, ◌&&◌, cond}
use mathlib.Core.List.{List}
use borrow.Author.Tests.{leb-true, eqb-true, ltb-true}
use lib.Dec.{ltb, leb, eqb}
use lib.ListN.{length, get_or}
use Rattle.fields.specs.Bounded.{all}
use Rattle.fields.specs.Fields.{Item, Fields, item_in}
use Rattle.fields.specs.Refusals.{framing_number, between}
use Rattle.fields.proofs.Bounded.{all-at, and_left, and_right}
use Rattle.files.specs.Header.{contacts_in, contacts_number, contacts_of}
use Rattle.files.proofs.Heads.{counts}
use Rattle.std.specs.Prelude.{Some, None}
use Rattle.rulesheet.specs.Rules.{RuleSheet, rule_sheet_of, rule_fields, rule_word, is_outputs, is_rule, are_rules, form_of, form_number}

-- A rule sheet that question 18 lets through.
pub record Limited (s : RuleSheet) : Type 0 where
  pub contacts : (1 ≤ s.contacts) × (s.contacts ≤ 12)
  pub outputs : (1 ≤ s.outputs) × (s.outputs ≤ 8)
  pub rules : (1 ≤ s.count) × (s.count ≤ 64)
  pub size : (i : ℕ) → i < s.count → length (s.rule i) ≡ s.contacts + 1
  pub bytes : (i k : ℕ) → i < s.count → k < s.contacts → get_or (s.rule i) k 0 ≤ 2
  pub word : (i : ℕ) → i < s.count → rule_word s.contacts (s.rule i) < 2 ^ s.outputs

between_is : (low n high : ℕ) → between low n high ≡ true → (low ≤ n) × (n ≤ high)
between_is low n high e =
    (leb-true _ _ (and_left (leb low n) (leb n high) e), leb-true _ _ (and_right (leb low n) (leb n high) e))

module _ (n m : ℕ) (i : Item) (e : is_rule n m i ≡ true) where
  abbrev sized : Bool
  sized = eqb (length i.value) (n + 1)

  abbrev sound : Bool
  sound = all n (λ k. leb (get_or i.value k 0) 2)

  abbrev tagged : Bool
  tagged = eqb i.tag 9

  first : (tagged && sized && sound) ≡ true
  first = and_left (tagged && sized && sound) (ltb (rule_word n i.value) (2 ^ m)) e

  rule-size : length i.value ≡ n + 1
  rule-size = eqb-true _ _ (and_right tagged sized (and_left (tagged && sized) sound first))

  rule-bytes : (k : ℕ) → k < n → get_or i.value k 0 ≤ 2
  rule-bytes k h = leb-true _ _ (all-at _ n (and_right (tagged && sized) sound first) k h)

  rule-word : rule_word n i.value < 2 ^ m
  rule-word = ltb-true _ _ (and_right (tagged && sized && sound) _ e)

module _ (fs : Fields) where
  abbrev s : RuleSheet
  s = rule_sheet_of fs.items

  abbrev whole : Bool
  whole = eqb (framing_number fs.framing) 0

  abbrev contacts_sound : Bool
  contacts_sound = eqb (contacts_number (contacts_in fs.items)) 0

  abbrev outputs_sound : Bool
  outputs_sound = is_outputs (item_in fs.items 1)

  abbrev rules_sound : Bool
  rules_sound = are_rules s.contacts s.outputs (rule_fields fs.items)

  abbrev is_formed : Bool
  is_formed = whole && contacts_sound && outputs_sound && rules_sound

  limited-by : is_formed ≡ true → Limited s
  limited-by t =
      let rules = and_right (whole && contacts_sound && outputs_sound) rules_sound t in
      let first = and_left (whole && contacts_sound && outputs_sound) rules_sound t in
      let (n, h) = counts fs.items (and_right whole contacts_sound (and_left (whole && contacts_sound) outputs_sound first)) in
      let is : contacts_of fs.items ≡ n = ap (λ (is : List Item). contacts_of is) h.split in
      let o = item_in fs.items 1 in
      let range = and_right (eqb o.tag 8 && eqb (length o.value) 1) _ (and_right (whole && contacts_sound) outputs_sound first) in
      let each = and_right (between 1 s.count 64) _ rules in
      let at : (i : ℕ) → i < s.count → is_rule s.contacts s.outputs (item_in (rule_fields fs.items) i) ≡ true =
      all-at _ s.count each in
      record {
        contacts = (omega (arith, h.low), omega (arith, h.high));
        outputs = between_is 1 s.outputs 8 range;
        rules = between_is 1 s.count 64 (and_left _ (all s.count (λ i. is_rule s.contacts s.outputs (item_in (rule_fields fs.items) i))) rules);
        size = λ i l. rule-size s.contacts s.outputs (item_in (rule_fields fs.items) i) (at i l);
        bytes = λ i k l. rule-bytes s.contacts s.outputs (item_in (rule_fields fs.items) i) (at i l) k;
        word = λ i l. rule-word s.contacts s.outputs (item_in (rule_fields fs.items) i) (at i l);
      }

  pub limited : form_number (form_of fs) ≡ 0 → Limited s
  unfolding form_of
  limited e = go is_formed refl e
    where
      go : (b : Bool) → is_formed ≡ b → form_number (cond b (Some (record { contacts = s.contacts; outputs = s.outputs; count = s.count })) None) ≡ 0 → Limited s
      go true t e = limited-by t
      go false t e = absurd (omega arith)
