-- Some output's value depends on a contact exactly if its level has a node with different edges.
use Prim.Native.Nat.{ℕ, suc, ◌+◌, ◌-◌, ◌<◌}
use native.Mathlib.Decide.{ℕ_discrete, dec_lt}
use native.Mathlib.Nat.{zero-add}
use native.Mathlib.Omega.{arith}
use mathlib.Core.Path.{◌≡◌, refl, sym, ap, ◌∙◌}
use mathlib.Core.Bool.{Bool, true, false, not, true≢false}
use mathlib.Core.Logic.{by_cases}
use borrow.Author.Tests.{eqb-false, not-true, ne_eqb}
use Rattle.fields.specs.Bounded.{any}
use Rattle.fields.proofs.Bounded.{any_at, any_found}
use Rattle.diagram.specs.declared.Diagram.{Diagram}
use Rattle.diagram.specs.Diagram.{width, edge, is_fork, root, Input, path, value_at, Ignores, join}
use Rattle.diagram.proofs.Inputs.{join-below, join-from}
use Rattle.diagram.proofs.Paths.{Branches, path-more, path-same, path_join, path-first, root_in, edge_in_lem, path-in}
use Rattle.diagram.proofs.Reached.{reached}
use Rattle.diagram.proofs.Apart.{apart}
use Rattle.diagram.proofs.Unique.{Reduced}

module _ (d : Diagram) (reduced : Reduced d) (i : ℕ) (h : i < d.contacts) where
  abbrev left : ℕ
  left = d.contacts - suc i

  levels : d.contacts ≡ i + suc left
  levels = omega arith

  -- An output's value by the levels before the contact's, its own, and those after it.
  value-split : (x : Input) (j : ℕ) → value_at d x j ≡ path d x left (suc i) (edge d i (path d x i 0 (root d j)) (x i))
  unfolding value_at path
  value-split x j =
      ap (λ (k : ℕ). path d x k 0 (root d j)) levels ∙ rw (zero-add i) at (path-more d x i (suc left) 0 (root d j))

  -- Where no node has different edges, the contact's value leads to the same node.
  module _ (straight : Branches d i → ⊥) where
    equal-edges : (u : ℕ) → u < width d i → edge d i u false ≡ edge d i u true
    equal-edges u hu = by_cases (ℕ_discrete (edge d i u false) _) (λ e. e) (λ ne. absurd (straight (u, hu, ne)))

    same-edge : (u : ℕ) → u < width d i → (b c : Bool) → edge d i u b ≡ edge d i u c
    same-edge u hu false false = refl
    same-edge u hu false true = equal-edges u hu
    same-edge u hu true false = sym (equal-edges u hu)
    same-edge u hu true true = refl

    pub ignored : Ignores d i
    ignored x y same j hj =
        let ranged = reduced.ranged in
        let u = path d x i 0 (root d j) in
        let hu = path-in d ranged x i 0 (root d j) (omega arith) (root_in d ranged j hj) in
        value-split x j
        ∙ path-same d x y left (suc i) _ (λ k l _. same k (λ e. omega arith))
        ∙ ap (path d y left (suc i))
        (same-edge u (rw (zero-add i) at hu) (x i) (y i)
        ∙ ap (λ (w : ℕ). edge d i w (y i)) (path-same d x y i 0 (root d j) (λ k _ l. same k (λ e. omega arith))))
        ∙ sym (value-split y j)

  -- Different edges lead on to different constants under some input, and some output leads to their node.
  pub depends : Ignores d i → Branches d i → ⊥
  unfolding value_at
  depends ignores (u, hu, ne) = go (reached d reduced.counted i h u hu)
      (apart d reduced.ranged reduced.differing left (suc i) _ _ (omega arith)
      (edge_in_lem d reduced.ranged i u false h hu) (edge_in_lem d reduced.ranged i u true h hu) ne)
    where
      go : (j : ℕ) × (j < d.outputs) × (x : Input) × (path d x i 0 (root d j) ≡ u) →
          (t : Input) × (path d t left (suc i) (edge d i u false) ≡ path d t left (suc i) (edge d i u true) → ⊥) → ⊥
      go (j, hj, x, leads) (t, told) =
          told (sym (value false) ∙ ignores (input false) (input true) agree j hj ∙ value true)
        where
          input : Bool → Input
          input b = join i x (join (suc i) (λ _. b) t)

          value : (b : Bool) → value_at d (input b) j ≡ path d t left (suc i) (edge d i u b)
          value b =
              ap (λ (k : ℕ). path d (input b) k 0 (root d j)) levels
              ∙ (rw (zero-add i) at (path_join d x (join (suc i) (λ _. b) t) i (suc left) 0 (root d j)))
              ∙ ap (path d (join (suc i) (λ _. b) t) (suc left) i) leads
              ∙ path-first d t b left i u

          past : (b : Bool) (k : ℕ) → i < k → input b k ≡ t k
          past b k l = join-from i x _ k (omega arith) ∙ join-from (suc i) (λ _. b) t k (omega arith)

          agree : (k : ℕ) → (k ≡ i → ⊥) → input false k ≡ input true k
          agree k other =
              by_cases (dec_lt k i) (λ l. join-below i x _ k l ∙ sym (join-below i x _ k l))
              (λ l. past false k (omega arith) ∙ sym (past true k (omega arith)))

-- What the code asks of a level's edges.
module _ (d : Diagram) (l : ℕ) where
  abbrev asked : Bool
  asked = any (width d l) (is_fork d l)

  pub forks-branch : asked ≡ true → Branches d l
  forks-branch e = let (u, hu, t) = any_found _ _ e in (u, hu, eqb-false _ _ (not-true _ t))

  pub no-fork : asked ≡ false → Branches d l → ⊥
  no-fork e (u, hu, ne) = true≢false (sym (any_at _ (width d l) u hu (ap not (ne_eqb _ _ ne))) ∙ e)
