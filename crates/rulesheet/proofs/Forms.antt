-- Question 18 by its tests.
use Prim.Native.Nat.{ℕ, zero, suc, ◌+◌, ◌^◌, ◌≤◌, ◌<◌}
use native.Mathlib.Nat.{le_antisymm}
use native.Mathlib.Omega.{arith}
use mathlib.Core.Path.{◌≡◌, refl, sym, ap, ap₂, ◌∙◌}
use mathlib.Core.Bool.{Bool, true, false, ◌&&◌, cond, and-false}
use mathlib.Core.Logic.{◌⊎◌, ⊎_elim}
use mathlib.Core.List.{List, [], ◌∷◌}
use borrow.Author.Tests.{leb-true, leb-false, le-leb, lt-leb, ltb-true, ltb-false}
use lib.Dec.{ltb, leb, eqb}
use lib.ListN.{length, get_or, take}
use native.Mathlib.Numerals.{add-one}
use Rattle.std.specs.Prelude.{Option, Some, None}
use Rattle.std.specs.List.{list_all}
use Rattle.std.proofs.lemmas.List.Folds.{list_all_more}
use Rattle.fields.specs.declared.Field.{Field}
use Rattle.fields.specs.Bounded.{all}
use Rattle.fields.specs.Fields.{Item, Fields, value_of, item_of, item_in, fields_from, fields_of}
use Rattle.fields.proofs.Steps.{from_start}
use Rattle.fields.specs.Refusals.{framing_number, between}
use Rattle.fields.proofs.Bounded.{all-not, and_left, and_right}
use Rattle.files.specs.Header.{contacts_in}
use Rattle.files.specs.Inner.Row.{ends_within, behind, Takes}
use Rattle.files.proofs.Counts.{contacts-first}
use Rattle.files.proofs.Heads.{contacts-are}
use Rattle.files.proofs.Taking.{stayed, went_on, field-taken, walked_on, ends-past}
use Rattle.rulesheet.specs.Rules.{RuleSheet, rule_sheet_in, rule_fields, rule_word, is_outputs, is_rule, are_rules, form_of}
use Rattle.rulesheet.specs.Inner.Form.{outputs_counted, rules_ended, rules_counted}

-- A test of each number of a list's beginning.
pub all_listed : (p : ℕ → Bool) (xs : List ℕ) (n : ℕ) → n ≤ length xs → list_all p (take n xs) ≡ all n (λ k. p (get_or xs k 0))
unfolding all
all_listed p xs zero h = refl
all_listed p xs (suc n) h =
    ap (λ (k : ℕ). list_all p (take k xs)) (sym (add-one n)) ∙ list_all_more p xs n 0 (omega arith)
    ∙ ap (λ (b : Bool). b && p (get_or xs n 0)) (all_listed p xs n (omega arith))

-- A count that is given if a test passes.
counted-none : {A : Type 0} (b : Bool) (a : A) → None ≡ cond b (Some a) None → b ≡ false
counted-none true a e = cc
counted-none false a e = refl

counted-some : {A : Type 0} (b : Bool) (a : A) {r : A} → Some r ≡ cond b (Some a) None → (b ≡ true) × (a ≡ r)
counted-some true a e = (refl, cc)
counted-some false a e = cc

pub outputs-few : (i : Item) {m : ℕ} → Some m ≡ outputs_counted i → m ≤ 8
outputs-few i e =
    let v = get_or i.value 0 0 in
    let (t, q) = counted-some (is_outputs i) v e in
    let range = and_right (eqb i.tag 8 && eqb (length i.value) 1) (between 1 v 8) t in
    omega (arith, leb-true v 8 (and_right (leb 1 v) (leb v 8) range))

-- A rule.
module _ (file : List ℕ) (f : Field) (n m : ℕ) {v : List ℕ} (w : v ≡ value_of file f) where
  abbrev contacts_sound : Bool
  contacts_sound = all n (λ k. leb (get_or v k 0) 2)

  pub rule-by : {b : Bool} → b ≡ (eqb f.tag 9 && eqb (length v) (n + 1) && contacts_sound && ltb (rule_word n v) (2 ^ m)) →
      b ≡ is_rule n m (item_of file f)
  rule-by t = t ∙ ap (λ (v : List ℕ). is_rule n m (record { tag = f.tag; value = v })) w

-- The rules that are the whole rest of a file.
module _ (n m : ℕ) (fs : Fields) where
  abbrev is : List Item
  is = fs.items

  abbrev whole : Bool
  whole = eqb (framing_number fs.framing) 0

  abbrev rule_at : ℕ → Bool
  rule_at i = is_rule n m (item_in is i)

  pub not-rule : (k : ℕ) → k < length is → rule_at k ≡ false → None ≡ rules_counted n m fs
  not-rule k h e = simp (all-not rule_at (length is) k h e, and-false)

  -- So many that are rules, and no more, or as many as there may be.
  pub all-passed : (k : ℕ) {gs : Fields} → gs ≡ behind k fs → k ≤ 64 → k ≤ length is → (length is ≤ k) ⊎ (k ≡ 64) → all k rule_at ≡ true →
      rules_ended k gs ≡ rules_counted n m fs
  all-passed k rest few h last e =
      ap (rules_ended k) rest ∙ ap (λ (b : Bool). cond (ltb 0 k && b) (Some k) None) (ends-past k fs) ∙ go (leb (length is) k) refl
    where
      go : (b : Bool) → leb (length is) k ≡ b → cond (ltb 0 k && ends_within k fs) (Some k) None ≡ rules_counted n m fs
      go true l = some (ltb 0 k) refl (le_antisymm h (leb-true (length is) k l))
        where
          some : (b : Bool) → ltb 0 k ≡ b → k ≡ length is → cond (ltb 0 k && ends_within k fs) (Some k) None ≡ rules_counted n m fs
          some true s q =
              let r : all (length is) rule_at ≡ true = rw q at e in
              let f : leb (length is) 64 ≡ true = le-leb (length is) 64 (omega arith) in
              let g : leb 1 (length is) ≡ true = le-leb 1 (length is) (omega (arith, ltb-true 0 k s)) in
              ap (λ (b : Bool). cond (b && (whole && leb (length is) k)) (Some k) None) s
              ∙ ap (λ (b : Bool). cond (whole && b) (Some k) None) l ∙ rw q (simp (g, f, r))
          some false s q =
              let g : leb 1 (length is) ≡ false = lt-leb 1 (length is) (omega (arith, ltb-false 0 k s)) in
              ap (λ (b : Bool). cond (b && (whole && leb (length is) k)) (Some k) None) s ∙ simp (g, and-false)
      go false l =
          ⊎_elim (λ g. absurd (omega (arith, leb-false (length is) k l)))
          (λ q. simp (l, lt-leb (length is) 64 (omega (arith, leb-false (length is) k l)), and-false)) last

-- The whole question.
module _ (file : List ℕ) where
  abbrev fs : Fields
  fs = fields_of file

  abbrev s : RuleSheet
  s = rule_sheet_in file

  pub uncounted : contacts_in fs.items ≡ None → None ≡ form_of fs
  unfolding form_of
  uncounted e = simp (e, and-false)

  pub no-outputs : None ≡ outputs_counted (item_in fs.items 1) → None ≡ form_of fs
  unfolding form_of
  no-outputs e = simp (counted-none (is_outputs (item_in fs.items 1)) s.outputs e, and-false)

  -- Where there is no first field, or no second one.
  pub no-first : Takes file 0 None → None ≡ form_of fs
  unfolding contacts_in
  no-first t = uncounted (sym (contacts-first fs.items refl (field-taken file fs 0 (from_start file refl) (stayed file 0 t))))

  pub no-second : (past : ℕ) → fields_from file past ≡ behind 1 fs → Takes file past None → None ≡ form_of fs
  no-second past one t = no-outputs (ap (λ (i : Item). outputs_counted i) (field-taken file fs 1 one (stayed file past t)))

  module _ {n m : ℕ} (c : contacts_in fs.items ≡ Some n) (o : Some m ≡ outputs_counted (item_in fs.items 1)) where
    outputs-are : (is_outputs (item_in fs.items 1) ≡ true) × (s.outputs ≡ m)
    outputs-are = counted-some (is_outputs (item_in fs.items 1)) s.outputs o

    rules-are : {r : Option ℕ} → r ≡ rules_counted n m (behind 2 fs) → r ≡ rules_counted s.contacts s.outputs (behind 2 fs)
    rules-are e = e ∙ ap₂ (λ (n m : ℕ). rules_counted n m (behind 2 fs)) (sym (contacts-are fs.items c)) (sym outputs-are.1)

    abbrev asked : Bool
    asked = are_rules s.contacts s.outputs (rule_fields fs.items)

    pub no-rules : None ≡ rules_counted n m (behind 2 fs) → None ≡ form_of fs
    unfolding form_of
    no-rules e = go (eqb (framing_number fs.framing) 0) asked refl refl
      where
        go : (a b : Bool) → eqb (framing_number fs.framing) 0 ≡ a → asked ≡ b → None ≡ form_of fs
        go true true w t =
            let none = counted-none (eqb (framing_number fs.framing) 0 && asked) s.count (rules-are e) in
            absurd (let z : true ≡ false = sym (ap₂ ◌&&◌ w t) ∙ none in let y : ◌≡◌ {A = ℕ} 0 1 = cc in omega arith)
        go true false w t = simp (t, and-false)
        go false b w t = simp w

    module _ {count : ℕ} (e : Some count ≡ rules_counted n m (behind 2 fs)) where
      pub formed : Some (record { contacts = n; outputs = m; count = count }) ≡ form_of fs
      unfolding form_of
      formed =
          let w = eqb (framing_number fs.framing) 0 in
          let (all, k) = counted-some (w && asked) s.count (rules-are e) in
          let number = contacts-are fs.items c in
          let (t, v) = outputs-are in
          (λ i. Some (record { contacts = sym number i; outputs = sym v i; count = sym k i }))
          ∙ simp (c, and_left w asked all, t, and_right w asked all)

      pub counts-are : (n ≡ s.contacts) × (m ≡ s.outputs) × (count ≡ s.count)
      counts-are =
          let (all, k) = counted-some (eqb (framing_number fs.framing) 0 && asked) s.count (rules-are e) in
          (sym (contacts-are fs.items c), sym outputs-are.1, sym k)

-- What the walk that took the first two fields found.
module _ (file : List ℕ) (first : Field) (past : ℕ) (one : Takes file 0 (Some (first, past))) where
  pub past-first : fields_from file past ≡ behind 1 (fields_of file)
  past-first = walked_on file (fields_of file) 0 (from_start file refl) (went_on file 0 first past one)

  pub contacts-found : {r : Option ℕ} → r ≡ contacts_in (item_of file first ∷ []) → r ≡ contacts_in (fields_of file).items
  contacts-found e =
      contacts-first (fields_of file).items e (field-taken file (fields_of file) 0 (from_start file refl) (went_on file 0 first past one))

  module _ (second : Field) (at : ℕ) (two : Takes file past (Some (second, at))) where
    pub past-second : fields_from file at ≡ behind 2 (fields_of file)
    past-second = walked_on file (fields_of file) 1 past-first (went_on file past second at two)

    pub outputs-found : {r : Option ℕ} → r ≡ outputs_counted (item_of file second) → r ≡ outputs_counted (item_in (fields_of file).items 1)
    outputs-found e =
        e ∙ ap (λ (i : Item). outputs_counted i) (field-taken file (fields_of file) 1 past-first (went_on file past second at two))

    pub rules-found : (n m : ℕ) {r : Option ℕ} → r ≡ rules_counted n m (fields_from file at) → r ≡ rules_counted n m (behind 2 (fields_of file))
    rules-found n m e = e ∙ ap (rules_counted n m) past-second
