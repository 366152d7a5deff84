-- Questions 3 and 4 by the steps that find the fields.
use Prim.Native.Nat.{ℕ, suc, ◌+◌, ◌-◌, ◌≤◌, ◌<◌}
use native.Mathlib.Nat.{sub-zero}
use native.Mathlib.Omega.{arith}
use mathlib.Core.Path.{◌≡◌, refl, sym, ap, ◌∙◌}
use mathlib.Core.Bool.{Bool, true, false, cond}
use mathlib.Core.List.{List, [], ◌∷◌}
use lib.ListN.{length, drop}
use Rattle.std.specs.Prelude.{Option, Some, None}
use Rattle.fields.specs.declared.Field.{Field}
use Rattle.fields.specs.Fields.{Item, Fields, item_of, item_in, fields_from, fields_of}
use Rattle.fields.proofs.Places.{item-at}
use Rattle.fields.proofs.Steps.{from_start}
use Rattle.files.specs.Header.{contacts_in, has_parts}
use Rattle.files.specs.Inner.Row.{behind, Takes}
use Rattle.files.proofs.Counts.{contacts-first}
use Rattle.files.proofs.Taking.{went_on, field-taken, walked_on}
use Rattle.table.specs.declared.fit.Levels.TheVariants.{Given, Lacking}
use Rattle.table.specs.Table.{outputs_in, are_levels, levels_in}

-- What a cursor that skipped k fields from the start has before it.
pub skipped : (file : List ℕ) (k : ℕ) {at : ℕ} {m : List Item} → at ≡ 0 → m ≡ drop k (fields_from file at).items →
    m ≡ drop k (fields_of file).items
skipped file k start e = e ∙ ap (λ (fs : Fields). drop k fs.items) (from_start file start)

-- Question 3 of a field.
pub outputs-by : (i : Item) (b : Bool) → has_parts 2 1 1 8 i ≡ b → cond b (Some (length i.value)) None ≡ outputs_in (i ∷ [])
unfolding outputs_in
outputs-by i b t = rw (← t)

-- It is asked of the first of some fields, and a missing one lists none.
first_alone : (is : List Item) → outputs_in (item_in is 0 ∷ []) ≡ outputs_in is
unfolding outputs_in
first_alone [] = refl
first_alone (i ∷ is) = refl

-- The first two fields of a file as a walk takes them, or finds that there are none.
module _ (file : List ℕ) where
  items-from : (fields_from file 0).items ≡ (fields_of file).items
  items-from = ap (λ (fs : Fields). fs.items) (from_start file refl)

  pub contacts-missing : Takes file 0 None → contacts_in (fields_of file).items ≡ None
  unfolding contacts_in
  contacts-missing e = ap contacts_in (sym items-from ∙ e)

  module _ (f : Field) (a : ℕ) (s : Takes file 0 (Some (f, a))) where
    pub contacts-taken : {r : Option ℕ} → r ≡ contacts_in (item_of file f ∷ []) → contacts_in (fields_of file).items ≡ r
    contacts-taken e =
        sym (contacts-first (fields_of file).items e (field-taken file (fields_of file) 0 (from_start file refl) (went_on file 0 f a s)))

    one : fields_from file a ≡ behind 1 (fields_of file)
    one = walked_on file (fields_of file) 0 (from_start file refl) (went_on file 0 f a s)

    pub outputs-missing : Takes file a None → outputs_in (drop 1 (fields_of file).items) ≡ None
    unfolding outputs_in
    outputs-missing e = ap outputs_in (sym (ap (λ (fs : Fields). fs.items) one) ∙ e)

    module _ (g : Field) (b : ℕ) (t : Takes file a (Some (g, b))) where
      pub outputs-taken : {r : Option ℕ} → r ≡ outputs_in (item_of file g ∷ []) → outputs_in (drop 1 (fields_of file).items) ≡ r
      outputs-taken e =
          let second = field-taken file (fields_of file) 1 one (went_on file a g b t) ∙ sym (item-at (fields_of file).items 1) in
          sym (e ∙ ap (λ (i : Item). outputs_in (i ∷ [])) second ∙ first_alone (drop 1 (fields_of file).items))

      pub levels-left : (fields_from file b).items ≡ drop 2 (fields_of file).items
      levels-left = ap (λ (fs : Fields). fs.items) (walked_on file (fields_of file) 1 one (went_on file a g b t))

left : (n k : ℕ) → k < n → n - k ≡ suc (n - (k + 1))
left n k h = omega arith

none_left : (n k : ℕ) → n ≤ k → n - k ≡ 0
none_left n k h = omega arith

-- Question 4, asked of n and the fields l, where k of them are levels and m is what is left.
module _ (n : ℕ) (l : List Item) where
  abbrev pub PassedLevels : ℕ → List Item → Type 0
  PassedLevels k m = are_levels n l ≡ are_levels (n - k) m

  pub passed_none : {m : List Item} → m ≡ l → PassedLevels 0 m
  passed_none e = rw (sub-zero n, e)

  answer : (b : Bool) → are_levels n l ≡ b → cond b Given Lacking ≡ levels_in n l
  answer b e = ap (λ (t : Bool). cond t Given Lacking) (sym e)

  module _ (k : ℕ) (m : List Item) (p : PassedLevels k m) where
    module _ (h : k < n) where
      pub passed-one : {i : Item} {r : List Item} → m ≡ i ∷ r → has_parts 3 2 1 8 i ≡ true → PassedLevels (k + 1) r
      unfolding are_levels
      passed-one d t = p ∙ rw (left n k h, d, t)

      pub not-level : {i : Item} {r : List Item} → m ≡ i ∷ r → has_parts 3 2 1 8 i ≡ false → Lacking ≡ levels_in n l
      unfolding are_levels
      not-level d t = answer false (p ∙ rw (left n k h, d, t))

      pub too_few : m ≡ [] → Lacking ≡ levels_in n l
      unfolding are_levels
      too_few d = answer false (p ∙ rw (left n k h, d))

    module _ (h : n ≤ k) where
      pub enough : m ≡ [] → Given ≡ levels_in n l
      unfolding are_levels
      enough d = answer true (p ∙ rw (none_left n k h, d))

      pub too_many : {i : Item} {r : List Item} → m ≡ i ∷ r → Lacking ≡ levels_in n l
      unfolding are_levels
      too_many d = answer false (p ∙ rw (none_left n k h, d))
