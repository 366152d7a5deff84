-- The bytes that the code reads: the edges of a level and the output list as parts of their arrays, and what is asked of each byte.
use Prim.Native.Nat.{ℕ, zero, suc, ◌+◌, ◌*◌, ◌≤◌, ◌<◌}
use native.Mathlib.Omega.{arith}
use mathlib.Core.Path.{◌≡◌, refl, sym, ap, ◌∙◌}
use mathlib.Core.Bool.{Bool, true, false, ◌&&◌, and-true, and_assoc}
use mathlib.Core.List.{List, [], ◌∷◌}
use borrow.Rule.Slice.PartMut.{mid_of}
use lib.ListN.{length, get_or}
use Rattle.std.specs.List.{list_all}
use Rattle.std.proofs.Common.{length-take, length-drop, get_or-take, get_or-drop}
use Rattle.fields.specs.Bounded.{all, listed}
use Rattle.fields.proofs.Bounded.{all-agree}
use Rattle.fields.proofs.Listed.{length-listed, listed_at, listed-is}
use Rattle.diagram.specs.declared.Diagram.{Diagram}
use Rattle.diagram.specs.Diagram.{width, edge_at, edge}

-- So many numbers from a place on, as a list.
pub part-is : (xs : List ℕ) (a k : ℕ) (f : ℕ → ℕ) → a + k ≤ length xs → ((i : ℕ) → i < k → f i ≡ get_or xs (a + i) 0) →
    mid_of a k xs ≡ listed f k 0
part-is xs a k f fits e =
    sym (listed-is f k (mid_of a k xs) 0 (simp (length-take, length-drop) (omega arith)) (λ i h. rw (get_or-take, get_or-drop) (e i h)))

pub all-front : (n : ℕ) (p : ℕ → Bool) → (p 0 && all n (λ i. p (suc i))) ≡ all (suc n) p
unfolding all
all-front zero p = and-true (p 0)
all-front (suc n) p = sym (and_assoc (p 0) (all n (λ i. p (suc i))) (p (suc n))) ∙ ap (λ (b : Bool). b && p (suc n)) (all-front n p)

-- Whether all of a list pass, by place.
all-at : (p : ℕ → Bool) (xs : List ℕ) → list_all p xs ≡ all (length xs) (λ k. p (get_or xs k 0))
unfolding all
all-at p [] = refl
all-at p (x ∷ xs) = ap (λ (b : Bool). p x && b) (all-at p xs) ∙ all-front (length xs) (λ k. p (get_or (x ∷ xs) k 0))

pub all-listed : (p : ℕ → Bool) (f : ℕ → ℕ) (n : ℕ) → list_all p (listed f n 0) ≡ all n (λ k. p (f k))
all-listed p f n =
    all-at p (listed f n 0) ∙ rw (length-listed f n 0) (all-agree n _ _ (λ k h. ap p (listed_at f n k 0 h)))

-- A list that is so many numbers of f, read.
module _ {xs : List ℕ} (f : ℕ → ℕ) (n : ℕ) (e : xs ≡ listed f n 0) where
  pub long : length xs ≡ n
  long = ap length e ∙ length-listed f n 0

  pub read : (k : ℕ) → k < n → get_or xs k 0 ≡ f k
  read k h = ap (λ (l : List ℕ). get_or l k 0) e ∙ listed_at f n k 0 h

-- The two edges of a node among the bytes of its level.
module _ (d : Diagram) (l u : ℕ) {xs : List ℕ} (e : xs ≡ listed (edge_at d l) (2 * width d l) 0) (h : u < width d l) where
  pub zero-edge : get_or xs (2 * u) 0 ≡ edge d l u false
  zero-edge = read (edge_at d l) (2 * width d l) e (2 * u) (omega arith) ∙ ap (edge_at d l) (omega arith)

  pub one-edge : get_or xs (2 * u + 1) 0 ≡ edge d l u true
  one-edge = read (edge_at d l) (2 * width d l) e (2 * u + 1) (omega arith)
