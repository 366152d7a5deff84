-- Where paths lead, and what questions 5 and 6 say of nodes.
use Prim.Native.Nat.{ℕ, zero, suc, ◌+◌, ◌*◌, ◌/◌, ◌%◌, ◌≤◌, ◌<◌}
use native.Mathlib.Nat.{zero-add, add-zero, suc-add, add_comm}
use native.Mathlib.Numerals.{add-one}
use native.Mathlib.Omega.{arith, ne_cases}
use mathlib.Core.Path.{◌≡◌, refl, sym, ap, ◌∙◌}
use mathlib.Core.Bool.{Bool, true, false, not, ◌&&◌}
use borrow.Author.Tests.{ltb-true, eqb-true, eqb-false, not-true, le-ltb}
use lib.Dec.{ltb, eqb}
use Rattle.fields.specs.Bounded.{all}
use Rattle.fields.proofs.Bounded.{all-at}
use Rattle.diagram.specs.declared.Diagram.{Diagram}
use Rattle.diagram.specs.Diagram.{width, edge_at, bit, edge, root, Input, path, value_at, join}
use Rattle.diagram.specs.Questions.{in_range, distinct}
use Rattle.diagram.proofs.Inputs.{join-below, join-from}

pub both : (a b : Bool) → (a && b) ≡ true → (a ≡ true) × (b ≡ true)
both true b e = (refl, e)
both false b e = absurd (let z : ◌≡◌ {A = ℕ} 0 1 = cc in omega arith)

shift : (l k : ℕ) → l + suc k ≡ suc l + k
shift l k = omega arith

-- Each edge of a level is the 0-edge or the 1-edge of a node.
pub place : (k : ℕ) → (u : ℕ) × (b : Bool) × (k ≡ 2 * u + bit b)
place k = go (eqb (k % 2) 1) refl
  where
    go : (t : Bool) → eqb (k % 2) 1 ≡ t → (u : ℕ) × (b : Bool) × (k ≡ 2 * u + bit b)
    go true e = (k / 2, true, omega (arith, eqb-true (k % 2) 1 e))
    go false e = (k / 2, false, omega (arith, eqb-false (k % 2) 1 e))

module _ (d : Diagram) where
  -- A path in two parts.
  pub path-more : (x : Input) (k m l u : ℕ) → path d x (k + m) l u ≡ path d x m (l + k) (path d x k l u)
  unfolding path
  path-more x zero m l u = rw (zero-add m, add-zero l)
  path-more x (suc k) m l u = rw (suc-add k m, shift l k) (path-more x k m (suc l) (edge d l u (x l)))

  -- A path depends on the contacts of its levels alone.
  pub path-same : (x y : Input) (k l u : ℕ) → ((i : ℕ) → l ≤ i → i < l + k → x i ≡ y i) →
      path d x k l u ≡ path d y k l u
  unfolding path
  path-same x y zero l u h = refl
  path-same x y (suc k) l u h =
      rw (h l (omega arith) (omega arith))
      (path-same x y k (suc l) (edge d l u (y l)) (λ i a b. h i (omega arith) (omega arith)))

  -- Along joined inputs a path follows the one and then the other.
  pub path_join : (x y : Input) (k m l u : ℕ) →
      path d (join (l + k) x y) (k + m) l u ≡ path d y m (l + k) (path d x k l u)
  path_join x y k m l u =
      path-more (join (l + k) x y) k m l u
      ∙ path-same (join (l + k) x y) y m (l + k) _ (λ i a _. join-from (l + k) x y i a)
      ∙ ap (path d y m (l + k)) (path-same (join (l + k) x y) x k l u (λ i _ a. join-below (l + k) x y i a))

  -- A contact's value before or after an input takes that edge first or last.
  pub path-first : (x : Input) (b : Bool) (k l u : ℕ) →
      path d (join (suc l) (λ _. b) x) (suc k) l u ≡ path d x k (suc l) (edge d l u b)
  unfolding path
  path-first x b k l u = rw (add-one l, add_comm 1 k, add-one k) at (path_join (λ _. b) x 1 k l u)

  pub path-then : (x : Input) (b : Bool) (k u : ℕ) →
      path d (join k x (λ _. b)) (suc k) 0 u ≡ edge d k (path d x k 0 u) b
  unfolding path
  path-then x b k u = rw (zero-add k, add-one k) at (path_join x (λ _. b) k 1 0 u)

  pub value_same : (x y : Input) (j : ℕ) → ((i : ℕ) → i < d.contacts → x i ≡ y i) → value_at d x j ≡ value_at d y j
  unfolding value_at
  value_same x y j h = path-same x y d.contacts 0 (root d j) (λ i _ l. h i (omega arith))

  pub width-last : width d d.contacts ≡ 2
  unfolding width
  width-last = simp (le-ltb d.contacts d.contacts (omega arith))

-- Question 5: nodes, edges and paths stay in range.
module _ (d : Diagram) (ranged : in_range d ≡ true) where
  pub root_in : (j : ℕ) → j < d.outputs → root d j < width d 0
  unfolding in_range
  root_in j h = ltb-true _ _ (all-at (λ j. ltb (root d j) (width d 0)) _ (both _ _ ranged).0 j h)

  pub edge_at-in : (l k : ℕ) → l < d.contacts → k < 2 * width d l → edge_at d l k < width d (suc l)
  unfolding in_range
  edge_at-in l k h i =
      let edges = (both (all d.outputs (λ j. ltb (root d j) (width d 0))) _ ranged).1 in
      ltb-true _ _ (all-at (λ k. ltb (edge_at d l k) (width d (suc l))) _ (all-at _ _ edges l h) k i)

  pub edge_in_lem : (l u : ℕ) (b : Bool) → l < d.contacts → u < width d l → edge d l u b < width d (suc l)
  edge_in_lem l u false h i = edge_at-in l (2 * u + 0) h (omega arith)
  edge_in_lem l u true h i = edge_at-in l (2 * u + 1) h (omega arith)

  pub path-in : (x : Input) (k l u : ℕ) → l + k ≤ d.contacts → u < width d l → path d x k l u < width d (l + k)
  unfolding path
  path-in x zero l u h i = rw (add-zero l) i
  path-in x (suc k) l u h i =
      rw (shift l k) (path-in x k (suc l) (edge d l u (x l)) (omega arith) (edge_in_lem l u (x l) (omega arith) i))

  pub value-bit : (x : Input) (j : ℕ) → j < d.outputs → value_at d x j < 2
  unfolding value_at
  value-bit x j h =
      rw (zero-add d.contacts, width-last d) at (path-in x d.contacts 0 (root d j) (omega arith) (root_in j h))

-- Question 6: two nodes of a level differ in an edge.
module _ (d : Diagram) (differing : distinct d ≡ true) where
  below : (l u v : ℕ) → l < d.contacts → v < width d l → u < v → (b : Bool) × (edge d l u b ≡ edge d l v b → ⊥)
  unfolding distinct
  below l u v h hv lt =
      go (eqb (edge d l u false) (edge d l v false)) refl
      (all-at _ _ (all-at _ _ (all-at _ _ differing l h) v hv) u lt)
    where
      go : (t : Bool) → eqb (edge d l u false) (edge d l v false) ≡ t →
          not (t && eqb (edge d l u true) (edge d l v true)) ≡ true → (b : Bool) × (edge d l u b ≡ edge d l v b → ⊥)
      go false e n = (false, eqb-false _ _ e)
      go true e n = (true, eqb-false _ _ (not-true _ n))

  pub unlike : (l u v : ℕ) → l < d.contacts → u < width d l → v < width d l → (u ≡ v → ⊥) →
      (b : Bool) × (edge d l u b ≡ edge d l v b → ⊥)
  unlike l u v h hu hv ne =
      ne_cases u v ((b : Bool) × (edge d l u b ≡ edge d l v b → ⊥)) ne (below l u v h hv)
      (λ lt. let (b, other) = below l v u h hu lt in (b, λ p. other (sym p)))

-- A level has a node with different edges.
abbrev pub Branches : Diagram → ℕ → Type 0
Branches d l = (u : ℕ) × (u < width d l) × (edge d l u false ≡ edge d l u true → ⊥)
