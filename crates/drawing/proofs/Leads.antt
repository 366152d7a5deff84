-- Where a drawing's numbers lead: levels rise from step to step, so as many steps as contacts end at a constant.
use Prim.Native.Nat.{ℕ, zero, suc, ◌+◌, ◌≤◌, ◌<◌}
use native.Mathlib.Omega.{arith}
use mathlib.Core.Path.{◌≡◌, refl, sym, ap, ◌∙◌}
use mathlib.Core.Bool.{Bool, true, false, ◌&&◌}
use mathlib.Core.List.{List}
use borrow.Author.Tests.{ltb-true}
use lib.Dec.{ltb}
use lib.ListN.{length, get_or}
use Rattle.fields.specs.Bounded.{all}
use Rattle.fields.proofs.Bounded.{all-at, and_left, and_right}
use Rattle.diagram.specs.Diagram.{Input}
use Rattle.drawing.specs.Drawing.{Drawing, node_count, level_in, edge_in, is_number, is_above, is_node, is_drawing, next, lead}

-- A constant stays where it is.
pub stays : (nodes : List ℕ) (x : Input) (s v : ℕ) → v < 2 → lead nodes x s v ≡ v
unfolding lead next
stays nodes x zero v h = refl
stays nodes x (suc s) zero h = stays nodes x s 0 h
stays nodes x (suc s) (suc zero) h = stays nodes x s 1 h
stays nodes x (suc s) (suc (suc i)) h = absurd (omega arith)

lead-suc : (nodes : List ℕ) (x : Input) (s i : ℕ) →
    lead nodes x (suc s) (suc (suc i)) ≡ lead nodes x s (edge_in nodes i (x (level_in nodes i)))
unfolding lead next
lead-suc nodes x s i = refl

module _ (n : ℕ) (nodes : List ℕ) (sound : all (node_count nodes) (is_node n nodes) ≡ true) where
  abbrev below : ℕ → Bool
  below i = ltb (level_in nodes i) n

  abbrev zero_above : ℕ → Bool
  zero_above i = is_above nodes (level_in nodes i) (edge_in nodes i false)

  abbrev one_above : ℕ → Bool
  one_above i = is_above nodes (level_in nodes i) (edge_in nodes i true)

  pub level-below : (i : ℕ) → i < node_count nodes → level_in nodes i < n
  level-below i h =
      ltb-true _ _ (and_left (below i) (zero_above i) (and_left (below i && zero_above i) (one_above i) (all-at _ _ sound i h)))

  pub edge-above : (i : ℕ) (b : Bool) → i < node_count nodes → is_above nodes (level_in nodes i) (edge_in nodes i b) ≡ true
  edge-above i false h = and_right (below i) (zero_above i) (and_left (below i && zero_above i) (one_above i) (all-at _ _ sound i h))
  edge-above i true h = and_right (below i && zero_above i) (one_above i) (all-at _ _ sound i h)

  -- What a number above a level is.
  pub listed_above : (l i : ℕ) → is_above nodes l (suc (suc i)) ≡ true → (i < node_count nodes) × (l < level_in nodes i)
  unfolding is_above
  listed_above l i e =
      let a = ltb i (node_count nodes) in
      let b = ltb l (level_in nodes i) in
      (ltb-true _ _ (and_left a b e), ltb-true _ _ (and_right a b e))

  -- From above a level, as many steps as there are levels above it lead to a constant, and one more stays there.
  pub settles : (x : Input) (s l v : ℕ) → n ≤ suc l + s → is_above nodes l v ≡ true →
      (lead nodes x s v < 2) × (lead nodes x (suc s) v ≡ lead nodes x s v)
  unfolding lead next
  settles x zero l zero h e = (omega arith, refl)
  settles x zero l (suc zero) h e = (omega arith, refl)
  settles x zero l (suc (suc i)) h e =
      let a = listed_above l i e in absurd (omega (arith, a.1, level-below i a.0))
  settles x (suc s) l zero h e = (omega (arith, stays nodes x s 0 (omega arith)), refl)
  settles x (suc s) l (suc zero) h e = (omega (arith, stays nodes x s 1 (omega arith)), refl)
  settles x (suc s) l (suc (suc i)) h e =
      let a = listed_above l i e in
      let k = level_in nodes i in
      settles x s k (edge_in nodes i (x k)) (omega (arith, a.1)) (edge-above i (x k) a.0)

  -- So a node has the value of the edge that it takes.
  pub lead_edge : (x : Input) (i : ℕ) → 1 ≤ n → i < node_count nodes →
      lead nodes x n (suc (suc i)) ≡ lead nodes x n (edge_in nodes i (x (level_in nodes i)))
  lead_edge x i h g = go n refl h
    where
      go : (k : ℕ) → k ≡ n → 1 ≤ k → lead nodes x k (suc (suc i)) ≡ lead nodes x k (edge_in nodes i (x (level_in nodes i)))
      go zero e h = absurd (omega arith)
      go (suc k) e h =
          let l = level_in nodes i in
          lead-suc nodes x k i ∙ sym (settles x k l (edge_in nodes i (x l)) (omega arith) (edge-above i (x l) g)).1

  -- A number of the drawing has the value 0 or 1.
  pub lead-bit : (x : Input) (v : ℕ) → 1 ≤ n → is_number nodes v ≡ true → lead nodes x n v < 2
  lead-bit x zero h e = omega (arith, stays nodes x n 0 (omega arith))
  lead-bit x (suc zero) h e = omega (arith, stays nodes x n 1 (omega arith))
  lead-bit x (suc (suc i)) h e =
      let g : i < node_count nodes = omega (arith, ltb-true (suc (suc i)) (2 + node_count nodes) e) in
      let l = level_in nodes i in
      rw (lead_edge x i h g) (settles x n l (edge_in nodes i (x l)) (omega arith) (edge-above i (x l) g)).0

  -- It depends on the contacts below n alone.
  above_same : (x y : Input) → ((i : ℕ) → i < n → x i ≡ y i) → (s l v : ℕ) → is_above nodes l v ≡ true →
      lead nodes x s v ≡ lead nodes y s v
  unfolding lead next
  above_same x y same zero l v e = refl
  above_same x y same (suc s) l zero e = above_same x y same s l 0 e
  above_same x y same (suc s) l (suc zero) e = above_same x y same s l 1 e
  above_same x y same (suc s) l (suc (suc i)) e =
      let g = (listed_above l i e).0 in
      let k = level_in nodes i in
      ap (λ (b : Bool). lead nodes x s (edge_in nodes i b)) (same k (level-below i g))
      ∙ above_same x y same s k (edge_in nodes i (y k)) (edge-above i (y k) g)

  pub lead-same : (x y : Input) → ((i : ℕ) → i < n → x i ≡ y i) → (s v : ℕ) → is_number nodes v ≡ true →
      lead nodes x s v ≡ lead nodes y s v
  unfolding lead next
  lead-same x y same zero v e = refl
  lead-same x y same (suc s) zero e = lead-same x y same s 0 e
  lead-same x y same (suc s) (suc zero) e = lead-same x y same s 1 e
  lead-same x y same (suc s) (suc (suc i)) e =
      let g : i < node_count nodes = omega (arith, ltb-true (suc (suc i)) (2 + node_count nodes) e) in
      let k = level_in nodes i in
      ap (λ (b : Bool). lead nodes x s (edge_in nodes i b)) (same k (level-below i g))
      ∙ above_same x y same s k (edge_in nodes i (y k)) (edge-above i (y k) g)

-- The parts of question 16 about nodes and outputs.
module _ (d : Drawing) (formed : is_drawing d ≡ true) where
  pub nodes-sound : all (node_count d.nodes) (is_node d.contacts d.nodes) ≡ true
  unfolding is_drawing
  nodes-sound = and_left _ (all (length d.outputs) (λ j. is_number d.nodes (get_or d.outputs j 0))) formed

  pub output-number : (j : ℕ) → j < length d.outputs → is_number d.nodes (get_or d.outputs j 0) ≡ true
  unfolding is_drawing
  output-number j h =
      all-at (λ j. is_number d.nodes (get_or d.outputs j 0)) _
      (and_right (all (node_count d.nodes) (is_node d.contacts d.nodes)) _ formed) j h
