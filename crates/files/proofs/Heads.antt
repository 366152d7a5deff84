-- The field that files begin with, by the answer of question 2.
use Prim.Native.Nat.{ℕ, ◌≤◌}
use native.Mathlib.Omega.{arith}
use mathlib.Core.Path.{◌≡◌, refl, ap, ◌∙◌}
use mathlib.Core.Bool.{Bool, true, false, ◌&&◌, cond, and-eq-true_iff}
use mathlib.Core.List.{List, [], ◌∷◌}
use borrow.Author.Tests.{leb-true, eqb-true}
use lib.Dec.{eqb, leb}
use lib.ListN.{length, get_or}
use Rattle.fields.specs.Fields.{Item}
use Rattle.fields.specs.Refusals.{between}
use Rattle.std.specs.Prelude.{Option, Some, None}
use Rattle.files.specs.Header.{contacts_in, contacts_number, contacts_of}

abbrev pub field : ℕ → List ℕ → Item
field tag value = record { tag = tag; value = value }

pub field_is : (i : Item) {tag : ℕ} {value : List ℕ} → i.tag ≡ tag → i.value ≡ value → i ≡ field tag value
field_is i t v = λ j. record { tag = t j; value = v j }

-- Fields that begin with the count of contacts.
pub record CountHead (is : List Item) (n : ℕ) : Type 0 where
  pub rest : List Item
  pub split : is ≡ field 1 (n ∷ []) ∷ rest
  pub low : 1 ≤ n
  pub high : n ≤ 12

single : (v : List ℕ) → length v ≡ 1 → v ≡ get_or v 0 0 ∷ []
single [] e = absurd (omega arith)
single (x ∷ []) e = refl
single (x ∷ y ∷ v) e = absurd (omega arith)

pub counted : (is : List Item) (n : ℕ) → contacts_in is ≡ Some n → CountHead is n
unfolding contacts_in
counted [] n e = absurd (let z : ◌≡◌ {A = ℕ} 0 1 = cc in omega arith)
counted (i ∷ is) n e = go (first && between 1 m 12) refl e
  where
    m : ℕ
    m = get_or i.value 0 0

    first : Bool
    first = eqb i.tag 1 && eqb (length i.value) 1

    go : (b : Bool) → (first && between 1 m 12) ≡ b → cond b (Some m) None ≡ Some n → CountHead (i ∷ is) n
    go true t e =
        let q : m ≡ n = cc in
        let both = (and-eq-true_iff first (between 1 m 12)).0 t in
        let head = (and-eq-true_iff (eqb i.tag 1) (eqb (length i.value) 1)).0 both.0 in
        let range = (and-eq-true_iff (leb 1 m) (leb m 12)).0 both.1 in
        let value = single i.value (eqb-true _ _ head.1) ∙ ap (λ (k : ℕ). k ∷ []) q in
        record {
          rest = is;
          split = ap (λ (j : Item). j ∷ is) (field_is i (eqb-true _ _ head.0) value);
          low = rw q at (leb-true 1 m range.0);
          high = rw q at (leb-true m 12 range.1);
        }
    go false t e = absurd (let z : ◌≡◌ {A = ℕ} 0 1 = cc in omega arith)

pub contacts-are : (is : List Item) {n : ℕ} → contacts_in is ≡ Some n → contacts_of is ≡ n
contacts-are is {n} e = ap (λ (is : List Item). contacts_of is) (counted is n e).split

pub counts : (is : List Item) → eqb (contacts_number (contacts_in is)) 0 ≡ true → (n : ℕ) × CountHead is n
counts is e = go (contacts_in is) refl e
  where
    go : (c : Option ℕ) → contacts_in is ≡ c → eqb (contacts_number c) 0 ≡ true → (n : ℕ) × CountHead is n
    go (Some n) c e = (n, counted is n c)
    go None c e = absurd (let z : ◌≡◌ {A = ℕ} 0 1 = cc in omega arith)
