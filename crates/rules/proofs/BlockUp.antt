-- If every line shows 1 that its sources would make show 1, the entry of a block where the path leads shows 1.
use Prim.Native.Nat.{ℕ, ◌+◌, ◌*◌, ◌≤◌, ◌<◌}
use native.Mathlib.Omega.{arith}
use mathlib.Core.Path.{◌≡◌, refl}
use mathlib.Core.Bool.{Bool, true, false, cond}
use borrow.Author.Tests.{eqb-false}
use lib.Dec.{eqb}
use Rattle.diagram.specs.declared.Diagram.{Diagram}
use Rattle.diagram.specs.Diagram.{width, edge, Input, path}
use Rattle.diagram.specs.Questions.{in_range}
use Rattle.diagram.proofs.Paths.{path-more, path-in, edge_in_lem}
use Rattle.rules.specs.declared.Entry.TheVariants.{Never, Always, Line}
use Rattle.rules.specs.Blocks.{Cut, one, two, size, entry_at, level_entry, level_matrix, block}
use Rattle.rules.proofs.Makes.{Ok, ok-return, ok-bind, ok-weaken, ok-table}
use Rattle.rules.proofs.Valuations.{Up, shows, RailsUp}
use Rattle.rules.proofs.Products.{product-up}

module _ (d : Diagram) (ranged : in_range d ≡ true) (x : Input) (ν : ℕ → ℕ) (rails : RailsUp d.contacts x ν) where
  level-up : (l u v : ℕ) → l < d.contacts → edge d l u (x l) ≡ v → shows ν (level_entry d l u v) ≡ 1
  level-up l u v h s = go (eqb (edge d l u true) v) (eqb (edge d l u false) v) (x l) refl refl refl s
    where
      go : (p q b : Bool) → eqb (edge d l u true) v ≡ p → eqb (edge d l u false) v ≡ q → x l ≡ b → edge d l u b ≡ v →
          shows ν (cond p (cond q Always (Line (2 + 2 * l))) (cond q (Line (3 + 2 * l)) Never)) ≡ 1
      go true true b e f g s = refl
      go true false true e f g s = rails.on l h g
      go true false false e f g s = absurd (eqb-false _ _ f s)
      go false true true e f g s = absurd (eqb-false _ _ e s)
      go false true false e f g s = rails.off l h g
      go false false true e f g s = absurd (eqb-false _ _ e s)
      go false false false e f g s = absurd (eqb-false _ _ f s)

  pub block_up : (c : Cut) (l : ℕ) → l + size c ≤ d.contacts →
      Ok (Up ν) (block d c l)
      (λ m. (u : ℕ) → u < width d l → shows ν (entry_at m u (path d x (size c) l u)) ≡ 1)
  unfolding block level_matrix path
  block_up one l h =
      ok-weaken (ok-table Never _ {Q = λ u v t. edge d l u (x l) ≡ v → shows ν t ≡ 1} _ _ (λ u v _ _.
      ok-return (level-up l u v (omega arith))))
      (λ m up u hu. up u (edge d l u (x l)) hu (edge_in_lem d ranged l u (x l) (omega arith) hu) refl)
  block_up (two a b) l h =
      ok-bind (block_up a l (omega arith)) (λ left hl.
      ok-bind (block_up b (l + size a) (omega arith)) (λ right hr.
      ok-weaken (product-up ν _ _ _ left right) (λ m up u hu.
      let w = path d x (size a) l u in
      let hw = path-in d ranged x (size a) l u (omega arith) hu in
      rw (path-more d x (size a) (size b) l u)
      (up u _ hu (path-in d ranged x (size b) (l + size a) w (omega arith) hw) (w, hw, hl u hu, hr w hw)))))
