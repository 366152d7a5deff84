-- Two nodes of a level are told apart by some input: it leads from them to different constants.
use Prim.Native.Nat.{ℕ, zero, suc, ◌+◌, ◌<◌}
use native.Mathlib.Decide.{ℕ_discrete}
use native.Mathlib.Omega.{arith}
use mathlib.Core.Path.{◌≡◌}
use mathlib.Core.Bool.{true, false}
use Rattle.diagram.specs.declared.Diagram.{Diagram}
use Rattle.diagram.specs.Diagram.{width, edge, Input, path, join}
use Rattle.diagram.specs.Questions.{in_range, distinct}
use Rattle.diagram.proofs.Paths.{path-first, edge_in_lem, unlike}

module _ (d : Diagram) (ranged : in_range d ≡ true) (differing : distinct d ≡ true) where
  pub apart : (left l u v : ℕ) → l + left ≡ d.contacts → u < width d l → v < width d l → (u ≡ v → ⊥) →
      (x : Input) × (path d x left l u ≡ path d x left l v → ⊥)
  unfolding path
  apart zero l u v e hu hv ne = (λ _. false, ne)
  apart (suc left) l u v e hu hv ne =
      let (b, other) = unlike d differing l u v (omega arith) hu hv ne in
      let (x, told) = apart left (suc l) (edge d l u b) (edge d l v b) (omega arith)
      (edge_in_lem d ranged l u b (omega arith) hu) (edge_in_lem d ranged l v b (omega arith) hv) other in
      (join (suc l) (λ _. b) x, λ p. told (cc (path-first d x b left l u, path-first d x b left l v)))

  -- So nodes with the same function are one.
  pub one-node : (left l u v : ℕ) → l + left ≡ d.contacts → u < width d l → v < width d l →
      ((x : Input) → path d x left l u ≡ path d x left l v) → u ≡ v
  one-node left l u v e hu hv same = go (ℕ_discrete u v)
    where
      go : Dec (u ≡ v) → u ≡ v
      go (yes p) = p
      go (no ne) = let (x, told) = apart left l u v e hu hv ne in absurd (told (same x))
