-- Lists whose every member has something.
use native.Mathlib.Omega.{arith}
use Prim.Native.Nat.{ℕ, zero, suc, ◌<◌}
use mathlib.Core.List.{List, [], ◌∷◌}
use lib.ListN.{length, get_or, take, drop}

pub data Every {A : Type 0} (S : A → Type 0) : List A → Type 0 where
  none : Every S []
  more : {x : A} {xs : List A} → S x → Every S xs → Every S (x ∷ xs)

module _ {A : Type 0} {S : A → Type 0} where
  pub every_map : {R : A → Type 0} {xs : List A} → ((a : A) → S a → R a) → Every S xs → Every R xs
  every_map k none = none
  every_map k (more s e) = more (k _ s) (every_map k e)

  pub every-at : {xs : List A} {a : A} → Every S xs → S a → (i : ℕ) → S (get_or xs i a)
  every-at none q i = q
  every-at (more s e) q zero = s
  every-at (more s e) q (suc i) = every-at e q i

  pub every-by : (xs : List A) (a : A) → ((i : ℕ) → i < length xs → S (get_or xs i a)) → Every S xs
  every-by [] a h = none
  every-by (x ∷ xs) a h = more (h 0 (omega arith)) (every-by xs a (λ i l. h (suc i) (omega arith)))

  pub every_take : (k : ℕ) {xs : List A} → Every S xs → Every S (take k xs)
  every_take zero e = none
  every_take (suc k) none = none
  every_take (suc k) (more s e) = more s (every_take k e)

  pub every_drop : (k : ℕ) {xs : List A} → Every S xs → Every S (drop k xs)
  every_drop zero e = e
  every_drop (suc k) none = none
  every_drop (suc k) (more s e) = every_drop k e
