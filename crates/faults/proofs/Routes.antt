-- Nodes on the path from an output, and inputs that lead from an output to a node and on from there as two given inputs do.
use Prim.Native.Nat.{ℕ, ◌+◌, ◌≤◌, ◌<◌}
use native.Mathlib.Nat.{zero-add}
use native.Mathlib.Omega.{arith}
use mathlib.Core.Path.{◌≡◌, sym, ap, ◌∙◌}
use mathlib.Core.Bool.{true}
use Rattle.diagram.specs.declared.Diagram.{Diagram}
use Rattle.diagram.specs.Diagram.{width, root, Input, path, join}
use Rattle.diagram.specs.Questions.{in_range, numbered}
use Rattle.diagram.proofs.Inputs.{join-below, join-from}
use Rattle.diagram.proofs.Paths.{path-more, path-same, root_in, path-in}
use Rattle.diagram.proofs.Reached.{reached}

-- The node of level l on the path from output j.
abbrev pub node_at : Diagram → Input → ℕ → ℕ → ℕ
node_at d x j l = path d x l 0 (root d j)

module _ (d : Diagram) (x : Input) (j : ℕ) where
  pub node-more : (k l : ℕ) → path d x k l (node_at d x j l) ≡ node_at d x j (l + k)
  node-more k l = rw (zero-add l) at (sym (path-more d x l k 0 (root d j)))

  pub node_in : in_range d ≡ true → j < d.outputs → (l : ℕ) → l ≤ d.contacts → node_at d x j l < width d l
  node_in ranged h l hl = rw (zero-add l) at (path-in d ranged x l 0 (root d j) (omega arith) (root_in d ranged j h))

-- An input that leads from an output to node u of level l, then for k levels as y does, and then as z does.
pub record Route (d : Diagram) (k l u : ℕ) (y z : Input) : Type 0 where
  pub output : ℕ
  pub named : output < d.outputs
  pub input : Input
  pub to : node_at d input output l ≡ u
  pub along : (v : ℕ) → path d input k l v ≡ path d y k l v
  pub after : (m v : ℕ) → path d input m (l + k) v ≡ path d z m (l + k) v

pub route : (d : Diagram) → numbered d ≡ true → (k l u : ℕ) → l < d.contacts → u < width d l → (y z : Input) →
    Route d k l u y z
route d counted k l u h hu y z =
    let (j, hj, x, leads) = reached d counted l h u hu in
    let rest = join (l + k) y z in
    record {
      output = j;
      named = hj;
      input = join l x rest;
      to = path-same d (join l x rest) x l 0 (root d j) (λ i _ a. join-below l x rest i (omega arith)) ∙ leads;
      along = λ v.
          path-same d (join l x rest) y k l v (λ i a b. join-from l x rest i a ∙ join-below (l + k) y z i b);
      after = λ m v.
          path-same d (join l x rest) z m (l + k) v (λ i a b.
          join-from l x rest i (omega arith) ∙ join-from (l + k) y z i a);
    }

pub route-end : (d : Diagram) (k l u m h : ℕ) (y z : Input) (r : Route d k l u y z) → l + k + m ≡ h →
    node_at d r.input r.output h ≡ path d z m (l + k) (path d y k l u)
route-end d k l u m h y z r e =
    rw (← e)
    (sym (node-more d x j m (l + k))
    ∙ ap (path d x m (l + k)) (sym (node-more d x j k l) ∙ ap (path d x k l) r.to ∙ r.along u)
    ∙ r.after m (path d y k l u))
  where
    x : Input
    x = r.input

    j : ℕ
    j = r.output
