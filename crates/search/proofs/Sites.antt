-- One held line or pin at a line: what its gate's sources are then, and what the gate makes of them.
use Prim.Native.Nat.{ℕ, ◌≤◌, ◌<◌, min, max}
use native.Mathlib.Omega.{arith}
use borrow.Author.Tests.{ne_eqb}
use mathlib.Core.Path.{◌≡◌, refl, sym, ap, ap₂, ◌∙◌}
use mathlib.Core.Bool.{Bool, true, false, ◌&&◌, ◌||◌, cond, and-true, and-false}
use mathlib.Core.List.{[], ◌∷◌}
use lib.Dec.{eqb}
use Rattle.netlist.specs.declared.Hold.{Hold}
use Rattle.netlist.specs.Netlist.{site_of, level_of}
use Rattle.simulation.specs.Run.{gate_of, held}
use Rattle.batches.specs.Inner.Batches.{held_batch, held_line, source_of}

module _ (h : Hold) (x : ℕ) where
  abbrev v : ℕ
  v = level_of h

  -- A source is held exactly if its gate's line is the held line of its site.
  held_at : (site s : ℕ) → 2 ≤ x → held_batch (held_line h site) v x s ≡ source_of h x site s
  unfolding held
  held_at site s l =
      ap (λ (b : Bool). cond b v s) (at (eqb (site_of h) 0 || eqb (site_of h) site))
      ∙ go (eqb h.line x) (eqb (site_of h) 0) (eqb (site_of h) site)
    where
      at : (c : Bool) → eqb (cond c h.line 0) x ≡ (eqb h.line x && c)
      at true = sym (and-true (eqb h.line x))
      at false = ne_eqb 0 x (λ e. omega arith) ∙ sym (and-false (eqb h.line x))

      go : (q a b : Bool) → cond (q && (a || b)) v s ≡ cond (q && b) v (cond (q && a) v s)
      go false a b = refl
      go true true true = refl
      go true true false = refl
      go true false b = refl

  -- The same, of the numbers that stand for these.
  pub taken : (pin source : ℕ) {line level number r : ℕ} → 2 ≤ x → line ≡ held_line h pin → level ≡ v → number ≡ source →
      r ≡ held_batch line level x number → r ≡ source_of h x pin source
  taken pin source l el ev en er = er ∙ (λ i. held_batch (el i) (ev i) x (en i)) ∙ held_at pin source l

  pub held-once : (s : ℕ) → source_of h x 0 s ≡ held (h ∷ []) x 0 s
  unfolding held
  held-once s = go (eqb h.line x && eqb (site_of h) 0)
    where
      go : (c : Bool) → cond c v (cond c v s) ≡ cond c v s
      go true = refl
      go false = refl

  -- What leaves the held value as it is may be done before or after.
  pub source-map : (f : ℕ → ℕ) (pin s : ℕ) → f v ≡ v → f (source_of h x pin s) ≡ source_of h x pin (f s)
  unfolding held
  source-map f pin s e = go (eqb h.line x && eqb (site_of h) pin) (eqb h.line x && eqb (site_of h) 0)
    where
      go : (c b : Bool) → f (cond c v (cond b v s)) ≡ cond c v (cond b v (f s))
      go true b = e
      go false true = e
      go false false = refl

  pub source_in : (pin s bound : ℕ) → s < bound → 2 ≤ bound → source_of h x pin s < bound
  unfolding held
  source_in pin s bound l m = go (eqb h.line x && eqb (site_of h) pin) (eqb h.line x && eqb (site_of h) 0)
    where
      go : (c b : Bool) → cond c v (cond b v s) < bound
      go true b = omega arith
      go false true = omega arith
      go false false = l

  -- A gate that reads its sources so shows what the hold says.
  pub sourced-gate : (kind a b : ℕ) →
      gate_of kind (source_of h x 1 a) (source_of h x 2 b)
      ≡ held (h ∷ []) x 0 (gate_of kind (held (h ∷ []) x 1 a) (held (h ∷ []) x 2 b))
  unfolding held
  sourced-gate kind a b =
      go (eqb h.line x && eqb (site_of h) 0) (eqb h.line x && eqb (site_of h) 1) (eqb h.line x && eqb (site_of h) 2)
    where
      same : (c : Bool) → cond c v v ≡ v
      same true = refl
      same false = refl

      twice : (q : Bool) → cond q (min v v) (max v v) ≡ v
      twice true = omega arith
      twice false = omega arith

      go : (c p q : Bool) →
          gate_of kind (cond p v (cond c v a)) (cond q v (cond c v b)) ≡ cond c v (gate_of kind (cond p v a) (cond q v b))
      go true p q = ap₂ (gate_of kind) (same p) (same q) ∙ twice (eqb kind 0)
      go false p q = refl
