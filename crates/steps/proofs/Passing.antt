-- The elements of a list that pass a test.
use mathlib.Core.Path.{◌≡◌, refl, ap}
use mathlib.Core.Bool.{Bool, true, false, cond}
use mathlib.Core.List.{List, [], ◌∷◌, ◌++◌}
use Rattle.fields.proofs.Every.{Every}
use Rattle.steps.specs.Steps.{passing}

module _ {A : Type 0} (p : A → Bool) where
  pub passing-append : (xs ys : List A) → passing p (xs ++ ys) ≡ passing p xs ++ passing p ys
  unfolding passing
  passing-append [] ys = refl
  passing-append (x ∷ xs) ys = go (p x) (passing-append xs ys)
    where
      go : (b : Bool) → passing p (xs ++ ys) ≡ passing p xs ++ passing p ys →
          cond b (x ∷ passing p (xs ++ ys)) (passing p (xs ++ ys)) ≡ cond b (x ∷ passing p xs) (passing p xs) ++ passing p ys
      go true e = ap (◌∷◌ x) e
      go false e = e

  -- They pass, and they have what every element has.
  pub every-passing : (P Q : A → Type 0) → ((x : A) → p x ≡ true → P x → Q x) → (xs : List A) → Every P xs → Every Q (passing p xs)
  unfolding passing
  every-passing P Q f [] h = tt
  every-passing P Q f (x ∷ xs) h = go (p x) refl (every-passing P Q f xs h.1)
    where
      go : (b : Bool) → p x ≡ b → Every Q (passing p xs) → Every Q (cond b (x ∷ passing p xs) (passing p xs))
      go true e rest = (f x e h.0, rest)
      go false e rest = rest

  pub all-passing : (Q : A → Type 0) → ((x : A) → p x ≡ true → Q x) → (xs : List A) → Every Q (passing p xs)
  all-passing Q f xs = every-passing (λ x. Unit) Q (λ x e u. f x e) xs (units xs)
    where
      units : (xs : List A) → Every (λ (x : A). Unit) xs
      units [] = tt
      units (x ∷ xs) = (tt, units xs)
