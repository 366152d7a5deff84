-- The nodes of a diagram's drawing by place: where each node of the diagram stands, and what it says there.
use Prim.Native.Nat.{ℕ, zero, suc, ◌+◌, ◌-◌, ◌*◌, ◌≤◌, ◌<◌}
use native.Mathlib.Decide.{dec_lt}
use native.Mathlib.Nat.{zero-add}
use native.Mathlib.Omega.{arith}
use mathlib.Core.Path.{◌≡◌, ◌∙◌}
use mathlib.Core.Bool.{Bool, true, false}
use mathlib.Core.List.{List}
use borrow.Author.Tests.{lt-ltb, le-ltb}
use lib.ListN.{length, get_or}
use Rattle.diagram.specs.declared.Diagram.{Diagram}
use Rattle.diagram.specs.Diagram.{width, edge}
use Rattle.drawing.specs.Drawing.{node_count, level_in, edge_in}
use Rattle.truths.specs.Promises.{first_number, number_of, node_bytes, level_bytes}
use Rattle.truths.proofs.Runs.{runs, runs-length, rises, run_at}

-- The bytes of all nodes, level by level.
abbrev pub nodes_of : Diagram → List ℕ
nodes_of d = runs (level_bytes d) d.contacts 0

-- Node u of level l stands at place i.
pub record Stands (d : Diagram) (l u i : ℕ) : Type 0 where
  pub level : l < d.contacts
  pub node : u < width d l
  pub place : 2 + i ≡ first_number d l + u

module _ (d : Diagram) where
  number-node : (l u : ℕ) → l < d.contacts → number_of d l u ≡ first_number d l + u
  number-node l u h = simp (lt-ltb l d.contacts h)

  pub number-end : (u : ℕ) → number_of d d.contacts u ≡ u
  number-end u = simp (le-ltb d.contacts d.contacts (omega arith))

  level-length : (l : ℕ) → length (level_bytes d l) ≡ 3 * width d l
  level-length l = omega (arith, runs-length (node_bytes d l) (λ u. 3 * u) (λ u. omega arith) (width d l) 0)

  first_next : (l : ℕ) → 3 * first_number d (suc l) ≡ 3 * first_number d l + length (level_bytes d l)
  unfolding first_number
  first_next l = omega (arith, level-length l)

  -- The numbers end where the levels do.
  nodes-length : 6 + length (nodes_of d) ≡ 3 * first_number d d.contacts
  unfolding first_number
  nodes-length =
      rw (zero-add d.contacts) at (runs-length (level_bytes d) (λ l. 3 * first_number d l) first_next d.contacts 0)

  pub nodes-whole : length (nodes_of d) ≡ 3 * node_count (nodes_of d)
  nodes-whole = omega (arith, nodes-length)

  pub node-count : 2 + node_count (nodes_of d) ≡ first_number d d.contacts
  node-count = omega (arith, nodes-length)

  module _ (l u i : ℕ) (s : Stands d l u i) where
    node-byte : (k j : ℕ) → k < 3 → j ≡ 3 * i + k → get_or (nodes_of d) j 0 ≡ get_or (node_bytes d l u) k 0
    unfolding first_number
    node-byte k j h e =
        run_at (level_bytes d) (λ l. 3 * first_number d l) first_next d.contacts 0 l (3 * u + k) j
        (omega arith) (omega arith) (omega (arith, level-length l)) (omega arith)
        ∙ run_at (node_bytes d l) (λ u. 3 * u) (λ u. omega arith) (width d l) 0 u k (3 * u + k)
        (omega arith) (omega arith) h (omega arith)

    pub level-at : level_in (nodes_of d) i ≡ l
    level-at = node-byte 0 (3 * i) (omega arith) (omega arith)

    pub edge_at : (b : Bool) → edge_in (nodes_of d) i b ≡ number_of d (suc l) (edge d l u b)
    edge_at false = node-byte 1 (3 * i + 1) (omega arith) (omega arith)
    edge_at true = node-byte 2 (3 * i + 2) (omega arith) (omega arith)

  -- Each node of the drawing is a node of the diagram.
  stands-below : (k i : ℕ) → k ≤ d.contacts → 2 + i < first_number d k → (l : ℕ) × (u : ℕ) × Stands d l u i
  unfolding first_number
  stands-below zero i h g = absurd (omega arith)
  stands-below (suc k) i h g = go (dec_lt (2 + i) (first_number d k)) (stands-below k i (omega arith))
    where
      go : Dec (2 + i < first_number d k) → (2 + i < first_number d k → (l : ℕ) × (u : ℕ) × Stands d l u i) →
          (l : ℕ) × (u : ℕ) × Stands d l u i
      go (yes low) rest = rest low
      go (no high) rest =
          (k, 2 + i - first_number d k, record { level = omega arith; node = omega arith; place = omega arith })

  pub stands : (i : ℕ) → i < node_count (nodes_of d) → (l : ℕ) × (u : ℕ) × Stands d l u i
  stands i h = stands-below d.contacts i (omega arith) (omega (arith, node-count))

  -- Each node of the diagram is a node of the drawing.
  first-low : (l : ℕ) → 2 ≤ first_number d l
  unfolding first_number
  first-low zero = omega arith
  first-low (suc l) = omega (arith, first-low l)

  first-most : (l : ℕ) → l < d.contacts → first_number d l + width d l ≤ 2 + node_count (nodes_of d)
  unfolding first_number
  first-most l h =
      omega (arith, node-count, rises (level_bytes d) (λ l. 3 * first_number d l) first_next (suc l) d.contacts h)

  pub place_of : (l u : ℕ) → l < d.contacts → u < width d l →
      (i : ℕ) × (number_of d l u ≡ suc (suc i)) × (i < node_count (nodes_of d)) × Stands d l u i
  place_of l u h g =
      let low = first-low l in
      let e = number-node l u h in
      (first_number d l + u - 2, omega arith, omega (arith, first-most l h), record { level = h; node = g; place = omega arith })
