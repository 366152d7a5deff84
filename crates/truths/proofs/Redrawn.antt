-- The drawing of a diagram that passes question 5: its nodes and outputs are as they should be, and its values are the diagram's.
use Prim.Native.Nat.{ℕ, zero, suc, ◌+◌, ◌≤◌, ◌<◌}
use native.Mathlib.Nat.{eq-or-lt_of_le}
use native.Mathlib.Omega.{arith}
use mathlib.Core.Path.{◌≡◌, refl, ap, ap₂, ◌∙◌}
use mathlib.Core.Bool.{Bool, true, false, ◌&&◌}
use mathlib.Core.Logic.{⊎_elim}
use mathlib.Core.List.{List}
use borrow.Author.Tests.{lt-ltb}
use lib.ListN.{length, get_or}
use Rattle.fields.specs.Bounded.{all, listed}
use Rattle.fields.proofs.Bounded.{all_of}
use Rattle.fields.proofs.Listed.{length-listed, listed_at}
use Rattle.diagram.specs.declared.Diagram.{Diagram}
use Rattle.diagram.specs.Diagram.{width, edge, root, Input, path, value_at}
use Rattle.diagram.specs.Questions.{in_range}
use Rattle.diagram.proofs.Paths.{width-last, root_in, edge_in_lem}
use Rattle.drawing.specs.Drawing.{Drawing, node_count, level_in, edge_in, is_number, is_above, is_node, is_drawing, lead, drawn_at}
use Rattle.drawing.proofs.Leads.{stays, lead_edge}
use Rattle.truths.specs.Promises.{number_of}
use Rattle.truths.proofs.Placed.{nodes_of, number-end, level-at, edge_at, stands, place_of}

abbrev pub redrawn : Diagram → Drawing
redrawn d =
    record { contacts = d.contacts; outputs = listed (λ j. number_of d 0 (root d j)) d.outputs 0; nodes = nodes_of d }

constant-above : (nodes : List ℕ) (l v : ℕ) → v < 2 → is_above nodes l v ≡ true
unfolding is_above
constant-above nodes l zero h = refl
constant-above nodes l (suc zero) h = refl
constant-above nodes l (suc (suc i)) h = absurd (omega arith)

node-above : (nodes : List ℕ) (l i : ℕ) → i < node_count nodes → l < level_in nodes i → is_above nodes l (suc (suc i)) ≡ true
unfolding is_above
node-above nodes l i h g = ap₂ ◌&&◌ (lt-ltb _ _ h) (lt-ltb _ _ g)

module _ (d : Diagram) where
  -- The numbers of level n are the constants.
  end_is : (l u : ℕ) → l ≡ d.contacts → u < width d l → (number_of d l u ≡ u) × (u < 2)
  end_is l u e h = (ap (λ (k : ℕ). number_of d k u) e ∙ number-end d u, omega (arith, ap (width d) e, width-last d))

  number-in : (l u : ℕ) → l ≤ d.contacts → u < width d l → is_number (nodes_of d) (number_of d l u) ≡ true
  number-in l u h g =
      lt-ltb (number_of d l u) (2 + node_count (nodes_of d))
      (⊎_elim (λ e. let c = end_is l u e g in omega arith) (λ k. let p = place_of d l u k g in omega arith) (eq-or-lt_of_le h))

  number-above : (k l u : ℕ) → k < l → l ≤ d.contacts → u < width d l → is_above (nodes_of d) k (number_of d l u) ≡ true
  number-above k l u b h g = ⊎_elim end inner (eq-or-lt_of_le h)
    where
      end : l ≡ d.contacts → is_above (nodes_of d) k (number_of d l u) ≡ true
      end e = let (is, small) = end_is l u e g in ap (is_above (nodes_of d) k) is ∙ constant-above (nodes_of d) k u small

      inner : l < d.contacts → is_above (nodes_of d) k (number_of d l u) ≡ true
      inner c =
          let (i, is, listed, s) = place_of d l u c g in
          ap (is_above (nodes_of d) k) is ∙ node-above (nodes_of d) k i listed (omega (arith, level-at d l u i s))

module _ (d : Diagram) (ranged : in_range d ≡ true) where
  node-sound : (i : ℕ) → i < node_count (nodes_of d) → is_node d.contacts (nodes_of d) i ≡ true
  node-sound i h =
      let (l, u, s) = stands d i h in
      let above : (b : Bool) → is_above (nodes_of d) (level_in (nodes_of d) i) (edge_in (nodes_of d) i b) ≡ true = λ b.
      ap₂ (is_above (nodes_of d)) (level-at d l u i s) (edge_at d l u i s b)
      ∙ number-above d l (suc l) (edge d l u b) (omega arith) s.level (edge_in_lem d ranged l u b s.level s.node) in
      let low = lt-ltb (level_in (nodes_of d) i) d.contacts (omega (arith, s.level, level-at d l u i s)) in
      ap₂ ◌&&◌ (ap₂ ◌&&◌ low (above false)) (above true)

  nodes-sound : all (node_count (nodes_of d)) (is_node d.contacts (nodes_of d)) ≡ true
  nodes-sound = all_of _ _ node-sound

  pub redrawn-sound : is_drawing (redrawn d) ≡ true
  unfolding is_drawing
  redrawn-sound =
      let outputs = (redrawn d).outputs in
      let m = length-listed (λ j. number_of d 0 (root d j)) d.outputs 0 in
      ap₂ ◌&&◌ nodes-sound
      (all_of (λ j. is_number (nodes_of d) (get_or outputs j 0)) (length outputs) (λ j h.
      ap (is_number (nodes_of d)) (listed_at (λ j. number_of d 0 (root d j)) d.outputs j 0 (omega arith))
      ∙ number-in d 0 (root d j) (omega arith) (root_in d ranged j (omega arith))))

  -- A node's number leads where its path leads.
  lead-path : (x : Input) (left l u : ℕ) → l + left ≡ d.contacts → u < width d l →
      lead (nodes_of d) x d.contacts (number_of d l u) ≡ path d x left l u
  unfolding path
  lead-path x zero l u p h =
      let (is, small) = end_is d l u (omega arith) h in
      ap (lead (nodes_of d) x d.contacts) is ∙ stays (nodes_of d) x d.contacts u small
  lead-path x (suc left) l u p h =
      let (i, is, listed, s) = place_of d l u (omega arith) h in
      let follow = lead (nodes_of d) x d.contacts in
      ap follow is ∙ lead_edge d.contacts (nodes_of d) nodes-sound x i (omega arith) listed
      ∙ ap (λ (k : ℕ). follow (edge_in (nodes_of d) i (x k))) (level-at d l u i s) ∙ ap follow (edge_at d l u i s (x l))
      ∙ lead-path x left (suc l) (edge d l u (x l)) (omega arith) (edge_in_lem d ranged l u (x l) s.level h)

  pub redrawn-value : (j : ℕ) (x : Input) → j < d.outputs → drawn_at (redrawn d) j x ≡ value_at d x j
  unfolding value_at
  redrawn-value j x h =
      ap (lead (nodes_of d) x d.contacts) (listed_at (λ j. number_of d 0 (root d j)) d.outputs j 0 h)
      ∙ lead-path x d.contacts 0 (root d j) (omega arith) (root_in d ranged j h)
