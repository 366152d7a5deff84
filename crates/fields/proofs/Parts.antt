-- Lists put together part by part, and what stands where if all parts have one size.
use Prim.Native.Nat.{ℕ, zero, suc, ◌+◌, ◌*◌, ◌<◌}
use native.Mathlib.Nat.{zero-add, zero-mul, suc-mul}
use native.Mathlib.Omega.{arith}
use mathlib.Core.Path.{◌≡◌, refl, sym, ◌∙◌}
use mathlib.Core.List.{List, [], ◌∷◌, ◌++◌, append_assoc, flat_map}
use lib.ListN.{length, get_or, length-append, get_or-append}
use lib.Seq.{get_or-append-add}

pub flat_append : {A B : Type 0} (f : A → List B) (xs ys : List A) → flat_map f (xs ++ ys) ≡ flat_map f xs ++ flat_map f ys
unfolding flat_map
flat_append f [] ys = refl
flat_append f (x ∷ xs) ys = rw (flat_append f xs ys, append_assoc (f x) (flat_map f xs) (flat_map f ys))

module _ {A : Type 0} (f : A → List ℕ) (size : ℕ) (sized : (a : A) → length (f a) ≡ size) where
  pub length-parts : (xs : List A) → length (flat_map f xs) ≡ length xs * size
  unfolding flat_map
  length-parts [] = sym (zero-mul size)
  length-parts (x ∷ xs) =
      let h = sized x in
      let t = length-parts xs in
      length-append (f x) (flat_map f xs) ∙ rw (suc-mul (length xs) size) (omega arith)

  -- What stands at place k of part i; where there is no such part, what stands in a part of zeros.
  module _ (d : A) (blank : (k : ℕ) → k < size → get_or (f d) k 0 ≡ 0) where
    pub part_at : (xs : List A) (i k : ℕ) → k < size → get_or (flat_map f xs) (i * size + k) 0 ≡ get_or (f (get_or xs i d)) k 0
    unfolding flat_map
    part_at [] i k h = sym (blank k h)
    part_at (x ∷ xs) zero k h = rw (zero-mul size, zero-add k) (get_or-append (f x) (flat_map f xs) 0 k (rw (sized x) h))
    part_at (x ∷ xs) (suc i) k h =
        let s = sized x in
        let e : suc i * size + k ≡ length (f x) + (i * size + k) = rw (suc-mul i size) (omega arith) in
        rw e (get_or-append-add (f x) (flat_map f xs) (i * size + k) 0 ∙ part_at xs i k h)
