-- `first_like` meets its contract: the chunks of two before the node's own are the edges of the nodes before it.
use Rattle.std.proofs.Common.{rules, arith, length-take, length-drop, get_or-take, get_or-drop}
use Prim.Native.Nat.{ℕ, ◌+◌, ◌*◌, ◌-◌, ◌<◌}
use mathlib.Core.Path.{◌≡◌, ap, ap₂, ◌∙◌}
use mathlib.Core.Bool.{Bool, ◌&&◌, and-true}
use mathlib.Core.List.{List, [], ◌∷◌}
use borrow.Rule.Slice.PartMut.{mid_of}
use lib.Dec.{eqb}
use lib.ListN.{get_or, take, length}
use lib.Pointwise.{pointwise}
use Rattle.fields.specs.Bounded.{listed}
use Rattle.diagram.specs.declared.Diagram.{Diagram}
use Rattle.diagram.specs.Diagram.{width, edge_at}
use Rattle.diagram.specs.Questions.{alike}
use Rattle.diagram.proofs.Bytes.{long, zero-edge, one-edge}
use Rattle.diagram.proofs.Chunks.{first-chunk}
use Rattle.twins.proofs.first_like.Goals as goal

-- Two bytes are the same if both are.
two : (a b : List ℕ) → length a ≡ 2 → length b ≡ 2 → pointwise eqb a b ≡ (eqb (get_or a 0 0) (get_or b 0 0) && eqb (get_or a 1 0) (get_or b 1 0))
two (x ∷ y ∷ []) (v ∷ w ∷ []) h g = ap (λ (t : Bool). eqb x v && t) (and-true (eqb y w))
two [] b h g = absurd (omega arith)
two (x ∷ []) b h g = absurd (omega arith)
two (x ∷ y ∷ z ∷ a) b h g = absurd (omega arith)
two (x ∷ y ∷ []) [] h g = absurd (omega arith)
two (x ∷ y ∷ []) (v ∷ []) h g = absurd (omega arith)
two (x ∷ y ∷ []) (v ∷ w ∷ z ∷ b) h g = absurd (omega arith)

-- The bytes of node v in its level, and those of the nodes before it.
module _ (d : Diagram) (l v : ℕ) {xs : List ℕ} (e : xs ≡ listed (edge_at d l) (2 * width d l) 0) (h : v < width d l) where
  enough : length xs ≡ 2 * width d l
  enough = long (edge_at d l) _ e

  abbrev node : List ℕ
  node = mid_of (2 * v) (2 * v + 2 - 2 * v) xs

  node-long : length node ≡ 2
  node-long = simp (length-take, length-drop) (omega (arith, enough))

  node-at : (k : ℕ) → k < 2 → get_or node k 0 ≡ get_or xs (2 * v + k) 0
  node-at k g = let room : k < 2 * v + 2 - 2 * v = omega arith in get_or-take (2 * v + 2 - 2 * v) _ k 0 room ∙ get_or-drop (2 * v) xs k 0

  abbrev before : List ℕ
  before = take (2 * v) xs

  before-long : length before ≡ 2 * v
  before-long = simp length-take (omega (arith, enough))

  pub tests : (k : ℕ) → k < v →
      (eqb (get_or before (2 * k) 0) (get_or node 0 0) && eqb (get_or before (2 * k + 1) 0) (get_or node 1 0)) ≡ alike d l k v
  tests k g =
      let zero : 2 * k < 2 * v = omega arith in
      let one : 2 * k + 1 < 2 * v = omega arith in
      ap₂ ◌&&◌
      (ap₂ eqb (get_or-take (2 * v) xs (2 * k) 0 zero ∙ zero-edge d l k e (omega arith)) (node-at 0 (omega arith) ∙ ap (λ (i : ℕ). get_or xs i 0) (omega arith) ∙ zero-edge d l v e h))
      (ap₂ eqb (get_or-take (2 * v) xs (2 * k + 1) 0 one ∙ one-edge d l k e (omega arith)) (node-at 1 (omega arith) ∙ one-edge d l v e h))

pub slice_bounds-node-end : goal.slice_bounds-node-end
slice_bounds-node-end c = omega (arith, long (edge_at c.args.d.now c.args.level) _ c.level-edges.ensures)

pub returns : goal.returns
returns c =
    let a = c.args in
    let d = a.d.now in
    let edges = c.level-edges.ensures in
    let own = node d a.level a.v edges c.requires.2 in
    first-chunk (before d a.level a.v edges c.requires.2) _ c.chunks_exact.ensures.rest c.chunks_exact.ensures.size c.chunks_exact.ensures.runs _ _
    (λ a r f h. search rules) (λ v w. eqb v (get_or own 0 0) && eqb w (get_or own 1 0))
    (λ x b e h. let q : b ≡ pointwise eqb x.now own = search rules in q ∙ two x.now own e (node-long d a.level a.v edges c.requires.2))
    a.v (before-long d a.level a.v edges c.requires.2) (λ u. alike d a.level u a.v) (tests d a.level a.v edges c.requires.2)
    c.position.result c.position.ensures.runs
