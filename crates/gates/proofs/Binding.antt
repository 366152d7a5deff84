-- The laws of making gates one after another.
use Prim.Native.Nat.{ℕ, zero, suc, ◌+◌, ◌≤◌, ◌<◌}
use native.Mathlib.Nat.{add-zero}
use native.Mathlib.Omega.{arith}
use mathlib.Core.Path.{◌≡◌, refl, ap, ap₂, ◌∙◌, fun_ext}
use mathlib.Core.List.{List, [], ◌∷◌, ◌++◌, append_assoc}
use lib.ListN.{length, length-append}
use Rattle.netlist.specs.declared.Gate.{Gate}
use Rattle.rules.specs.Make.{Make, return, ◌>>=◌, sequence}

module _ {A B : Type 0} where
  pub return-bind : (a : A) (f : A → Make B) → (return a >>= f) ≡ f a
  unfolding ◌>>=◌
  return-bind a f = fun_ext (λ next. rw (add-zero next))

module _ {A B C : Type 0} where
  bind_assoc : (m : Make A) (f : A → Make B) (g : B → Make C) → (m >>= f >>= g) ≡ (m >>= λ a. f a >>= g)
  unfolding ◌>>=◌
  bind_assoc m f g =
      fun_ext (λ next.
      let a = m next in
      let b = f a.1 (next + length a.0) in
      let e : next + length (a.0 ++ b.0) ≡ next + length a.0 + length b.0 = omega (arith, length-append a.0 b.0) in
      ap (λ (k : ℕ). (a.0 ++ b.0 ++ (g b.1 k).0, (g b.1 k).1)) e
      ∙ ap (λ (gs : List Gate). (gs, (g b.1 (next + length a.0 + length b.0)).1)) (append_assoc a.0 b.0 _))

module _ {A : Type 0} where
  abbrev then : Make A → Make (List A) → Make (List A)
  then m s = m >>= λ a. s >>= λ rest. return (a ∷ rest)

  -- The last place is made last.
  pub sequence-last : (f : ℕ → Make A) (count p : ℕ) →
      sequence f (suc count) p ≡ (sequence f count p >>= λ made. f (p + count) >>= λ a. return (made ++ (a ∷ [])))
  unfolding sequence
  sequence-last f zero p =
      rw (return-bind [] (λ made. f (p + zero) >>= λ a. return (made ++ (a ∷ []))), add-zero p)
      (ap (λ (k : A → Make (List A)). f p >>= k) (fun_ext (λ a. return-bind [] (λ rest. return (a ∷ rest)))))
  sequence-last f (suc count) p =
      let e : suc p + count ≡ p + suc count = omega arith in
      rw (sequence-last f count (suc p), e) (simp (bind_assoc, return-bind))

  -- What is made at the same places is the same.
  pub sequence-same : (f g : ℕ → Make A) (count p : ℕ) →
      ((k : ℕ) → p ≤ k → k < p + count → f k ≡ g k) → sequence f count p ≡ sequence g count p
  unfolding sequence
  sequence-same f g zero p h = refl
  sequence-same f g (suc count) p h =
      ap₂ then (h p (omega arith) (omega arith))
      (sequence-same f g count (suc p) (λ k a b. h k (omega arith) (omega arith)))

  pub sequence-length : (f : ℕ → Make A) (count p next : ℕ) → length (sequence f count p next).1 ≡ count
  unfolding sequence ◌>>=◌
  sequence-length f zero p next = refl
  sequence-length f (suc count) p next = ap suc (sequence-length f count (suc p) _)
