-- The number of a refusal is above 0.
use Prim.Native.Nat.{ℕ, suc}
use native.Mathlib.Omega.{arith}
use mathlib.Core.Path.{◌≡◌, refl, sym, ◌∙◌}
use Rattle.files.specs.declared.refusal.Refusal.{Refusal}
use Rattle.files.specs.declared.refusal.Refusal.TheVariants.{Framing, Contacts, Outputs, Levels, Range, Twins, Numbering, Room, Input, Form}
use Rattle.files.specs.declared.refusal.Refusal.TheVariants.{Wiring, Rails, Holds, Fanout, Drawing, Width, Rules, Shares, Gaps, Place}
use Rattle.files.specs.Refusals.{number_of}

pub above_zero : (r : Refusal) → (k : ℕ) × (number_of r ≡ suc k)
above_zero Framing = (0, refl)
above_zero Contacts = (1, refl)
above_zero Outputs = (2, refl)
above_zero Levels = (3, refl)
above_zero Range = (4, refl)
above_zero Twins = (5, refl)
above_zero Numbering = (6, refl)
above_zero Room = (8, refl)
above_zero Input = (9, refl)
above_zero Form = (10, refl)
above_zero Wiring = (11, refl)
above_zero Rails = (12, refl)
above_zero Holds = (13, refl)
above_zero Fanout = (14, refl)
above_zero Drawing = (15, refl)
above_zero Width = (16, refl)
above_zero Rules = (17, refl)
above_zero Shares = (18, refl)
above_zero Gaps = (19, refl)
above_zero Place = (20, refl)

pub not_zero : (r : Refusal) → number_of r ≡ 0 → ⊥
not_zero r e = let a = above_zero r in absurd (let z : ◌≡◌ {A = ℕ} 0 (suc a.0) = sym e ∙ a.1 in omega arith)
