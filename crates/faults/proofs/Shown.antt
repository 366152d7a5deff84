-- What a stuck line does to the entries of a block: held at 0 it spoils one on the path from some output, and held at 1 one that
-- leaves this path for the wrong constant.
use Prim.Native.Nat.{ℕ, ◌+◌, ◌<◌}
use native.Mathlib.Omega.{arith}
use mathlib.Core.Path.{◌≡◌, sym, ap, ◌∙◌}
use Rattle.diagram.specs.declared.Diagram.{Diagram}
use Rattle.diagram.specs.Diagram.{width, Input, path}
use Rattle.diagram.proofs.Apart.{apart}
use Rattle.diagram.proofs.Paths.{path-in}
use Rattle.diagram.proofs.Unique.{Reduced}
use Rattle.rules.specs.declared.Entry.{Entry}
use Rattle.rules.specs.Blocks.{Cut, size, entry_at, block}
use Rattle.rules.proofs.Valuations.{Down, Up, shows, RailsDown, RailsUp}
use Rattle.faults.proofs.Hits.{EachOf}
use Rattle.faults.proofs.Routes.{node_at, Route, route, route-end}

-- An entry of the block of the levels from l on, made from line next on.
abbrev pub entry_of : Diagram → Cut → ℕ → ℕ → ℕ → ℕ → Entry
entry_of d c l next u v = entry_at (block d c l next).1 u v

-- A fault at 0, where the lines' values have H: at some input the path from some output takes an entry that does not show 1.
abbrev pub Low : Diagram → ((ℕ → ℕ) → Type 0) → Cut → ℕ → ℕ → Type 0
Low d H c l next =
    (j : ℕ) × (j < d.outputs) × (x : Input)
    × ((ν : ℕ → ℕ) → RailsDown d.contacts x ν → EachOf (block d c l) next (Down ν) → H ν →
    shows ν (entry_of d c l next (node_at d x j l) (node_at d x j (l + size c))) ≡ 1 → ⊥)

-- A fault at 1: at some input an entry shows 1 that leaves the path from some output for a node v, from which the levels that are left
-- after the block lead to another constant.
abbrev pub High : Diagram → ((ℕ → ℕ) → Type 0) → Cut → ℕ → ℕ → ℕ → Type 0
High d H c left l next =
    (j : ℕ) × (j < d.outputs) × (x : Input) × (v : ℕ) × (v < width d (l + size c))
    × (path d x left (l + size c) v ≡ node_at d x j d.contacts → ⊥)
    × ((ν : ℕ → ℕ) → RailsUp d.contacts x ν → EachOf (block d c l) next (Up ν) → H ν →
    shows ν (entry_of d c l next (node_at d x j l) v) ≡ 1)

-- Line y spoils the block, held at either value.
pub record Spoils (d : Diagram) (y : ℕ) (c : Cut) (left l next : ℕ) : Type 0 where
  pub low : Low d (λ ν. ν y ≡ 0) c l next
  pub high : High d (λ ν. ν y ≡ 1) c left l next

-- Any entry (u, v) will do, since every node is reached and different nodes are told apart.
module _ (d : Diagram) (reduced : Reduced d) (H : (ℕ → ℕ) → Type 0) (c : Cut) (l next u v : ℕ) (above : l < d.contacts)
    (hu : u < width d l) where
  -- It does not show 1 where the path from u goes through w, k levels on, and some input leads through w to v.
  pub low-on : (k m w : ℕ) → l + k + m ≡ l + size c → (s t : Input) → path d s k l u ≡ w → path d t m (l + k) w ≡ v →
      ((x : Input) (ν : ℕ → ℕ) → path d x k l u ≡ w → RailsDown d.contacts x ν → EachOf (block d c l) next (Down ν) → H ν →
      shows ν (entry_of d c l next u v) ≡ 1 → ⊥) →
      Low d H c l next
  low-on k m w e s t p q spoils = go (route d reduced.counted k l u above hu s t)
    where
      go : Route d k l u s t → Low d H c l next
      go r =
          let to = route-end d k l u m (l + size c) s t r e ∙ ap (path d t m (l + k)) p ∙ q in (
            r.output,
            r.named,
            r.input,
            λ ν rails each o shown.
                spoils r.input ν (r.along u ∙ p) rails each o (rw (r.to, to) at shown),
          )

  -- It shows 1 though some input leads from u elsewhere.
  pub high-on : (left : ℕ) → l + size c + left ≡ d.contacts → v < width d (l + size c) → (s : Input) →
      (path d s (size c) l u ≡ v → ⊥) →
      ((ν : ℕ → ℕ) → EachOf (block d c l) next (Up ν) → H ν → shows ν (entry_of d c l next u v) ≡ 1) →
      High d H c left l next
  high-on left e hv s ne spoils =
      let inside = path-in d reduced.ranged s (size c) l u (omega arith) hu in
      let (t, told) = apart d reduced.ranged reduced.differing left (l + size c) v _ e hv inside (λ p. ne (sym p)) in
      go t told (route d reduced.counted (size c) l u above hu s t)
    where
      go : (t : Input) → (path d t left (l + size c) v ≡ path d t left (l + size c) (path d s (size c) l u) → ⊥) →
          Route d (size c) l u s t → High d H c left l next
      go t told r = (
        r.output,
        r.named,
        r.input,
        v,
        hv,
        λ p. told (sym (r.after left v) ∙ p ∙ route-end d (size c) l u left d.contacts s t r e),
        λ ν rails each o. rw r.to (spoils ν each o),
      )
