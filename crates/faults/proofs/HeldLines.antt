-- Hold lists by their holds, and what a line shows that is held.
use Prim.Native.Nat.{ℕ, ◌/◌, ◌%◌, ◌≤◌, ◌<◌}
use native.Mathlib.Nat.{mod-lt}
use native.Mathlib.Omega.{arith}
use mathlib.Core.Path.{◌≡◌, refl}
use mathlib.Core.Bool.{true}
use mathlib.Core.List.{List, [], ◌∷◌}
use borrow.Author.Tests.{eq-eqb}
use lib.Dec.{eqb}
use lib.ListN.{length}
use Rattle.diagram.specs.Diagram.{Input}
use Rattle.netlist.specs.declared.Hold.{Hold}
use Rattle.netlist.specs.Netlist.{Netlist, line_count, hold_at, holds_of, level_of}
use Rattle.fields.proofs.Bounded.{and_right}
use Rattle.fields.proofs.Every.{Every, every-listed}
use Rattle.simulation.specs.Run.{held}
use Rattle.netlist.proofs.Lists.{length-holds}
use Rattle.netlist.proofs.Sound.{Wired}
use Rattle.drive.specs.Questions.{are_holds, are_ordered}
use Rattle.drive.proofs.Tests.{holds_at}
use Rattle.simulation.proofs.Monotone.{AllHeld}
use Rattle.rules.proofs.Models.{code_of, follows-line}
use Rattle.rules.proofs.Held.{shown, line-shows}

-- Every hold of a hold list's bytes has a property that each place gives it.
pub all-holds : (P : Hold → Type 0) (holds : List ℕ) → ((i : ℕ) → i < length (holds_of holds) → P (hold_at holds i)) →
    Every P (holds_of holds)
unfolding holds_of
all-holds P holds h = every-listed P (hold_at holds) _ 0 (λ i l. h i (omega (arith, length-holds holds)))

-- A held value is 0 or 1.
pub level-bit : (h : Hold) → level_of h ≤ 1
level-bit h = omega (arith, mod-lt h.value (let two : 0 < 2 = omega arith in two))

pub levels : (holds : List Hold) → AllHeld (λ v. v ≤ 1) holds
levels [] = tt
levels (h ∷ hs) = (level-bit h, levels hs)

-- What question 14 says of each hold.
pub holds-in : (first lines : ℕ) (holds : List ℕ) → are_ordered first lines holds ≡ true → Every (λ (h : Hold). h.line < lines) (holds_of holds)
unfolding are_ordered
holds-in first lines holds ordered =
    let ok = and_right (eqb (length holds % 3) 0) (are_holds first lines holds) ordered in
    all-holds (λ h. h.line < lines) holds (λ i l. (holds_at first lines holds ok i (omega (arith, length-holds holds))).within)

-- One line held at b shows b.
pub held-shows : (net : Netlist) → Wired net → (x : Input) (b : ℕ) → b ≤ 1 → (y : ℕ) → 2 ≤ y → y < line_count net →
    shown net (code_of net x) (record { line = y; value = b } ∷ []) y ≡ b
unfolding held
held-shows net wired x b bound y low high =
    let h : Hold = record { line = y; value = b } in
    let (_, (made, e)) = follows-line (line-shows net wired x (h ∷ []) (level-bit h, tt)) y low high in
    let line : b / 2 ≡ 0 = omega arith in
    rw e (simp (eq-eqb y y refl, eq-eqb (b / 2) 0 line) (omega arith))
