-- If every line that shows 1 is justified, an entry of a block that shows 1 is where the path leads.
use Prim.Native.Nat.{ℕ, ◌+◌, ◌*◌, ◌≤◌, ◌<◌}
use native.Mathlib.Nat.{add_assoc}
use native.Mathlib.Numerals.{add-one}
use native.Mathlib.Omega.{arith}
use mathlib.Core.Path.{◌≡◌, refl, ap, ◌∙◌}
use mathlib.Core.Bool.{Bool, true, false, cond}
use borrow.Author.Tests.{eqb-true}
use lib.Dec.{eqb}
use Rattle.diagram.specs.declared.Diagram.{Diagram}
use Rattle.diagram.specs.Diagram.{width, edge, Input, path}
use Rattle.diagram.proofs.Paths.{path-more}
use Rattle.rules.specs.declared.Entry.TheVariants.{Never, Always, Line}
use Rattle.rules.specs.Blocks.{Cut, one, two, size, entry_at, level_entry, level_matrix, block}
use Rattle.rules.proofs.Makes.{Ok, ok-return, ok-bind, ok-weaken, ok-table}
use Rattle.rules.proofs.Valuations.{Down, shows, RailsDown}
use Rattle.rules.proofs.Products.{product-down}

module _ (d : Diagram) (x : Input) (ν : ℕ → ℕ) (rails : RailsDown d.contacts x ν) where
  level-down : (l u v : ℕ) → l < d.contacts → shows ν (level_entry d l u v) ≡ 1 → edge d l u (x l) ≡ v
  level-down l u v h s = go (eqb (edge d l u true) v) (eqb (edge d l u false) v) refl refl s
    where
      go : (p q : Bool) → eqb (edge d l u true) v ≡ p → eqb (edge d l u false) v ≡ q →
          shows ν (cond p (cond q Always (Line (2 + 2 * l))) (cond q (Line (3 + 2 * l)) Never)) ≡ 1 →
          edge d l u (x l) ≡ v
      go true true e f s =
          elim (x l) as (λ b. edge d l u b ≡ v) [ true ↦ eqb-true _ _ e | false ↦ eqb-true _ _ f ]
      go true false e f s = rw (rails.on l h s) (eqb-true _ _ e)
      go false true e f s = rw (rails.off l h s) (eqb-true _ _ f)
      go false false e f s = absurd (omega arith)

  pub block-down : (c : Cut) (l : ℕ) → l + size c ≤ d.contacts →
      Ok (Down ν) (block d c l)
      (λ m. (u v : ℕ) → u < width d l → v < width d (l + size c) → shows ν (entry_at m u v) ≡ 1 →
      path d x (size c) l u ≡ v)
  unfolding block level_matrix path
  block-down one l h =
      rw (add-one l)
      (ok-table Never _ {Q = λ u v t. shows ν t ≡ 1 → edge d l u (x l) ≡ v} _ _ (λ u v _ _.
      ok-return (level-down l u v (omega arith))))
  block-down (two a b) l h =
      rw (← add_assoc l (size a) (size b))
      (ok-bind (block-down a l (omega arith)) (λ left hl.
      ok-bind (block-down b (l + size a) (omega arith)) (λ right hr.
      ok-weaken (product-down ν _ _ _ left right) (λ m down u v hu hv s.
      let (w, hw, p, q) = down u v hu hv s in
      path-more d x (size a) (size b) l u ∙ ap (path d x (size b) (l + size a)) (hl u w hu hw p) ∙ hr w v hw hv q))))
