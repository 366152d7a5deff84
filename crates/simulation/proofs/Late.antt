-- The gate on three values works out what each line is for every way in which late values could arrive: the two extreme arrivals, all
-- late values at 0 and all at 1, decide it.
use native.Mathlib.Omega.{arith}
use Prim.Native.Nat.{ℕ, zero, suc, ◌≤◌}
use mathlib.Core.Path.{◌≡◌, refl, sym, ap, ap₂, ◌∙◌}
use mathlib.Core.Bool.{Bool, true, false, ◌&&◌, and-false}
use mathlib.Core.List.{List, [], ◌∷◌}
use borrow.Author.Tests.{eqb-true, eqb-false}
use lib.Dec.{eqb}
use Rattle.simulation.specs.Late.{every_arrival}
use Rattle.simulation.proofs.Related.{Pairwise, none, more}

-- What a value can arrive as: one that is not yet as 0 or 1, any other as itself.
abbrev pub Arrives : ℕ → ℕ → Type 0
Arrives v w = (v ≡ 2 → w ≤ 1) × ((v ≡ 2 → ⊥) → w ≡ v)

module _ (v : ℕ) (vs : List ℕ) (p : List ℕ → Bool) where
  abbrev split : Bool → Bool
  split b = elim b [ true ↦ every_arrival vs (λ ws. p (0 ∷ ws)) && every_arrival vs (λ ws. p (1 ∷ ws)) | false ↦ every_arrival vs (λ ws. p (v ∷ ws)) ]

  -- What passes for every way, and what fails for one of them.
  all_pass : ((q : List ℕ → Bool) → ((ws : List ℕ) → Pairwise Arrives vs ws → q ws ≡ true) → every_arrival vs q ≡ true) →
      ((ws : List ℕ) → Pairwise Arrives (v ∷ vs) ws → p ws ≡ true) → (b : Bool) → eqb v 2 ≡ b → split b ≡ true
  all_pass rest h true e =
      ap₂ ◌&&◌
      (rest (λ ws. p (0 ∷ ws)) (λ ws a. h (0 ∷ ws) (more (λ _. omega arith, λ n. absurd (n (eqb-true v 2 e))) a)))
      (rest (λ ws. p (1 ∷ ws)) (λ ws a. h (1 ∷ ws) (more (λ _. omega arith, λ n. absurd (n (eqb-true v 2 e))) a)))
  all_pass rest h false e =
      rest (λ ws. p (v ∷ ws)) (λ ws a. h (v ∷ ws) (more (λ y. absurd (eqb-false v 2 e y), λ _. refl) a))

  one-fails : (w : ℕ) (ws : List ℕ) → Arrives v w → ((q : List ℕ → Bool) → q ws ≡ false → every_arrival vs q ≡ false) →
      p (w ∷ ws) ≡ false → (b : Bool) → eqb v 2 ≡ b → split b ≡ false
  one-fails zero ws a rest f true e = ap (λ (b : Bool). b && every_arrival vs (λ ws. p (1 ∷ ws))) (rest (λ ws. p (0 ∷ ws)) f)
  one-fails (suc zero) ws a rest f true e =
      ap (λ (b : Bool). every_arrival vs (λ ws. p (0 ∷ ws)) && b) (rest (λ ws. p (1 ∷ ws)) f) ∙ and-false _
  one-fails (suc (suc w)) ws a rest f true e = absurd (omega (arith, a.0 (eqb-true v 2 e)))
  one-fails w ws a rest f false e =
      rest (λ ws. p (v ∷ ws)) (ap (λ (u : ℕ). p (u ∷ ws)) (sym (a.1 (eqb-false v 2 e))) ∙ f)

pub every-passes : (vs : List ℕ) (p : List ℕ → Bool) → ((ws : List ℕ) → Pairwise Arrives vs ws → p ws ≡ true) → every_arrival vs p ≡ true
unfolding every_arrival
every-passes [] p h = h [] none
every-passes (v ∷ vs) p h = all_pass v vs p (every-passes vs) h (eqb v 2) refl

pub every-fails : {vs ws : List ℕ} (p : List ℕ → Bool) → Pairwise Arrives vs ws → p ws ≡ false → every_arrival vs p ≡ false
unfolding every_arrival
every-fails p none f = f
every-fails p (more {a = v} {b = w} {xs = vs} {ys = ws} h a) f =
    one-fails v vs p w ws h (λ q. every-fails q a) f (eqb v 2) refl
