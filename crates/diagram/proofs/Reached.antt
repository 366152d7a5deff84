-- Every node is mentioned (question 7), so some output leads to it.
use Prim.Native.Nat.{ℕ, zero, suc, ◌≤◌, ◌<◌}
use native.Mathlib.Decide.{dec_lt}
use native.Mathlib.Omega.{arith}
use mathlib.Core.Path.{◌≡◌, sym, ap, ◌∙◌}
use mathlib.Core.Bool.{true, false}
use borrow.Author.Tests.{leb-true, eqb-true}
use lib.Dec.{leb}
use Rattle.fields.specs.Bounded.{all}
use Rattle.fields.proofs.Bounded.{all-at}
use Rattle.diagram.specs.declared.Diagram.{Diagram}
use Rattle.diagram.specs.Diagram.{width, edge_at, edge, root, Input, path, join}
use Rattle.diagram.specs.Questions.{mention, mentions, brought, numbered}
use Rattle.diagram.proofs.Paths.{both, place, path-then}

-- The first k numbers of f are numbered by first mention.
abbrev pub InTurn : (ℕ → ℕ) → ℕ → Type 0
InTurn f k = (i : ℕ) → i < k → f i ≤ brought f i

-- Then each number that they bring is one of them.
pub found : (f : ℕ → ℕ) (k : ℕ) → InTurn f k → (v : ℕ) → v < brought f k → (i : ℕ) × (i < k) × (f i ≡ v)
unfolding brought
found f zero t v h = absurd (omega arith)
found f (suc k) t v h = go (found f k (λ i l. t i (omega arith)) v) (dec_lt v (brought f k))
  where
    go : (v < brought f k → (i : ℕ) × (i < k) × (f i ≡ v)) → Dec (v < brought f k) → (i : ℕ) × (i < suc k) × (f i ≡ v)
    go before (yes l) = let (i, h, e) = before l in (i, omega arith, e)
    go before (no n) = (k, omega arith, omega (arith, t k (omega arith)))

module _ (d : Diagram) (counted : numbered d ≡ true) where
  pub in-turn : (l : ℕ) → l < d.contacts → InTurn (mention d l) (mentions d l)
  unfolding numbered
  in-turn l h k i = leb-true _ _ (all-at _ _ (both _ _ (all-at _ _ counted l h)).0 k i)

  pub brings : (l : ℕ) → l < d.contacts → brought (mention d l) (mentions d l) ≡ width d l
  unfolding numbered
  brings l h =
      let named = all (mentions d l) (λ k. leb (mention d l k) (brought (mention d l) k)) in
      eqb-true _ _ (both named _ (all-at _ _ counted l h)).1

  -- The mention of a node.
  pub mentioned : (l : ℕ) → l < d.contacts → (u : ℕ) → u < width d l →
      (k : ℕ) × (k < mentions d l) × (mention d l k ≡ u)
  mentioned l h u i = found (mention d l) (mentions d l) (in-turn l h) u (rw (brings l h) i)

  -- An output and an input whose path leads to a node.
  pub reached : (l : ℕ) → l < d.contacts → (u : ℕ) → u < width d l →
      (j : ℕ) × (j < d.outputs) × (x : Input) × (path d x l 0 (root d j) ≡ u)
  unfolding mention mentions path
  reached zero h u i = let (j, hj, names) = mentioned 0 h u i in (j, hj, λ _. false, names)
  reached (suc l) h u i =
      let (k, hk, names) = mentioned (suc l) h u i in
      let (v, b, p) = place k in
      let (j, hj, x, leads) = reached l (omega arith) v (omega arith) in
      let ends = ap (λ w. edge d l w b) leads ∙ ap (edge_at d l) (sym p) ∙ names in
      (j, hj, join l x (λ _. b), path-then d x b l (root d j) ∙ ends)
