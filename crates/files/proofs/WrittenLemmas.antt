-- Bytes written into a list from a place on, one run after another.
use Prim.Native.Nat.{ℕ, suc, ◌+◌, ◌<◌}
use native.Mathlib.Nat.{add-zero}
use native.Mathlib.Numerals.{add-one}
use native.Mathlib.Omega.{arith}
use mathlib.Core.Path.{◌≡◌, ap, ◌∙◌}
use mathlib.Core.List.{List, [], ◌∷◌, ◌++◌}
use lib.ListN.{length, get_or, take, set}
use lib.Seq.{sets, take-suc, length-take-le}

module _ {A : Type 0} where
  pub sets_more : (l : List A) (i j : ℕ) (xs ys : List A) → j ≡ i + length xs → sets (sets l i xs) j ys ≡ sets l i (xs ++ ys)
  sets_more l i j [] ys e = rw (e, add-zero i)
  sets_more l i j (x ∷ xs) ys e = sets_more (set l i x) (suc i) j xs ys (omega arith)

  -- A run of elements written behind another.
  pub onward : (l : List A) (i : ℕ) {j : ℕ} (xs ys : List A) {m n : List A} → m ≡ sets l i xs → n ≡ sets m j ys → j ≡ i + length xs →
      n ≡ sets l i (xs ++ ys)
  onward l i {j} xs ys d e h = e ∙ ap (λ (m : List A). sets m j ys) d ∙ sets_more l i j xs ys h

  -- A list vs copied element by element: one more, after i of them.
  pub copied_more : (l : List A) {m : List A} (at i : ℕ) (vs : List A) (d : A) → i < length vs → m ≡ sets l at (take i vs) →
      set m (at + i) (get_or vs i d) ≡ sets l at (take (i + 1) vs)
  copied_more l at i vs d h e =
      let one : List A = get_or vs i d ∷ [] in
      ap (λ (m : List A). sets m (at + i) one) e
      ∙ sets_more l at (at + i) (take i vs) one (rw (length-take-le i vs (omega arith)))
      ∙ rw (add-one i, take-suc vs i d h)
