-- Two lines that show a code with none held show it too with lines held all one way, or both show the held value.
use Prim.Native.Nat.{ℕ, zero, suc, ◌≤◌}
use native.Mathlib.Omega.{arith}
use mathlib.Core.Path.{◌≡◌, refl}
use mathlib.Core.Bool.{true}
use mathlib.Core.List.{List, []}
use mathlib.Core.Logic.{◌⊎◌, inl, inr}
use borrow.Author.Tests.{eqb-false, not-true}
use lib.ListN.{get_or}
use Rattle.fields.proofs.Every.{every-weaken}
use Rattle.netlist.specs.declared.Hold.{Hold}
use Rattle.netlist.specs.declared.Pair.{Pair}
use Rattle.netlist.specs.Netlist.{Netlist, level_of}
use Rattle.simulation.proofs.Monotone.{AllHeld, lines-lower, lines-higher, lines-bits}
use Rattle.rules.proofs.Held.{shown}
use Rattle.lamp.proofs.Joins.{is_code}

-- The values of two lines are a and c, or both are b.
abbrev pub SameOr : ℕ → ℕ → ℕ → ℕ → ℕ → Type 0
SameOr b a c u v = ((u ≡ a) × (v ≡ c)) ⊎ ((u ≡ b) × (v ≡ b))

low_same : (a c u v : ℕ) → a ≤ 1 → c ≤ 1 → (a ≡ c → ⊥) → u ≤ a → v ≤ c → SameOr 0 a c u v
low_same a c zero zero ha hc ne p q = inr (refl, refl)
low_same a c (suc u) v ha hc ne p q = inl (omega arith, omega arith)
low_same a c zero (suc v) ha hc ne p q = inl (omega arith, omega arith)

high_same : (a c u v : ℕ) → u ≤ 1 → v ≤ 1 → (a ≡ c → ⊥) → a ≤ u → c ≤ v → SameOr 1 a c u v
high_same a c zero v hu hv ne p q = inl (omega arith, omega arith)
high_same a c (suc u) zero hu hv ne p q = inl (omega arith, omega arith)
high_same a c (suc u) (suc v) hu hv ne p q = inr (omega arith, omega arith)

module _ (net : Netlist) (rails : List ℕ) (bits : (i : ℕ) → get_or rails i 0 ≤ 1) (holds : List Hold) where
  abbrev free : ℕ → ℕ
  free = shown net rails []

  abbrev stuck : ℕ → ℕ
  stuck = shown net rails holds

  pub code_same : (b : ℕ) → b ≤ 1 → AllHeld (λ v. v ≡ b) holds → (p : Pair) → is_code free p ≡ true →
      SameOr b (free p.on) (free p.off) (stuck p.on) (stuck p.off)
  code_same zero h all p code =
      let bit = lines-bits net rails [] bits tt in
      let lower = lines-lower net rails holds all in
      low_same _ _ _ _ (bit p.on) (bit p.off) (eqb-false _ _ (not-true _ code)) (lower p.on) (lower p.off)
  code_same (suc zero) h all p code =
      let bit =
      lines-bits net rails holds bits
      (every-weaken (λ (k : Hold). level_of k ≡ 1) (λ k. level_of k ≤ 1) (λ k e. omega arith) holds all) in
      let higher = lines-higher net rails holds bits all in
      high_same _ _ _ _ (bit p.on) (bit p.off) (eqb-false _ _ (not-true _ code)) (higher p.on) (higher p.off)
  code_same (suc (suc b)) h all p code = absurd (omega arith)
