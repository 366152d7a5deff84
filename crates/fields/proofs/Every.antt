-- Every element of a list has a property.
use native.Mathlib.Omega.{arith}
use Prim.Native.Nat.{ℕ, zero, suc, ◌+◌, ◌<◌}
use mathlib.Core.List.{List, [], ◌∷◌, ◌++◌}
use lib.ListN.{length, get_or, take, drop}
use Rattle.fields.specs.Bounded.{listed}

abbrev pub Every : {A : Type 0} → (A → Type 0) → List A → Type 0
Every P [] = Unit
Every P (x ∷ xs) = P x × Every P xs

module _ {A : Type 0} (P : A → Type 0) where
  pub every-by : (xs : List A) (d : A) → ((i : ℕ) → i < length xs → P (get_or xs i d)) → Every P xs
  every-by [] d h = tt
  every-by (x ∷ xs) d h = (h 0 (omega arith), every-by xs d (λ i l. h (suc i) (omega arith)))

  pub every-at : (xs : List A) (d : A) → P d → Every P xs → (i : ℕ) → P (get_or xs i d)
  every-at [] d p h i = p
  every-at (x ∷ xs) d p h zero = h.0
  every-at (x ∷ xs) d p h (suc i) = every-at xs d p h.1 i

  pub every-listed : (f : ℕ → A) (count from : ℕ) → ((i : ℕ) → i < from + count → P (f i)) → Every P (listed f count from)
  unfolding listed
  every-listed f zero from h = tt
  every-listed f (suc count) from h = (h from (omega arith), every-listed f count (suc from) (λ i l. h i (omega arith)))

  pub every_append : (xs ys : List A) → Every P xs → Every P ys → Every P (xs ++ ys)
  every_append [] ys p q = q
  every_append (x ∷ xs) ys p q = (p.0, every_append xs ys p.1 q)

  pub every_take : (k : ℕ) (xs : List A) → Every P xs → Every P (take k xs)
  every_take zero xs p = tt
  every_take (suc k) [] p = tt
  every_take (suc k) (x ∷ xs) p = (p.0, every_take k xs p.1)

  pub every_drop : (k : ℕ) (xs : List A) → Every P xs → Every P (drop k xs)
  every_drop zero xs p = p
  every_drop (suc k) [] p = tt
  every_drop (suc k) (x ∷ xs) p = every_drop k xs p.1

  pub every-weaken : (Q : A → Type 0) → ((x : A) → P x → Q x) → (xs : List A) → Every P xs → Every Q xs
  every-weaken Q f [] p = tt
  every-weaken Q f (x ∷ xs) p = (f x p.0, every-weaken Q f xs p.1)
