-- Question 14 for just one hold.
use Prim.Native.Nat.{ℕ, ◌+◌, ◌*◌, ◌%◌, ◌≤◌, ◌<◌}
use native.Mathlib.Omega.{arith}
use mathlib.Core.Path.{◌≡◌, refl}
use mathlib.Core.Bool.{Bool, true, false, ◌&&◌, ◌||◌, cond}
use mathlib.Core.List.{List, [], ◌∷◌}
use borrow.Author.Tests.{eqb-true, leb-true}
use lib.Dec.{eqb, leb}
use lib.ListN.{length}
use Rattle.netlist.specs.declared.Hold.{Hold}
use Rattle.netlist.specs.Netlist.{hold_at, holds_of, site_of}
use Rattle.drive.specs.declared.Holds.TheVariants.{Ordered, Disordered}
use Rattle.fields.specs.Bounded.{listed}
use Rattle.drive.specs.Questions.{are_holds, are_ordered}
use Rattle.drive.proofs.Tests.{HoldIn, holds_at}
use Rattle.stuck.specs.Service.{one_hold}

-- One hold's bytes are a hold list of one hold.
pub one-hold : (hold : List ℕ) → length hold ≡ 3 → holds_of hold ≡ hold_at hold 0 ∷ []
unfolding holds_of listed
one-hold hold e = rw e

-- A yes to question 14 for one hold.
pub one-held : (first lines : ℕ) (hold : List ℕ) → one_hold first lines hold ≡ Ordered →
    (length hold ≡ 3) × (are_holds first lines hold ≡ true)
unfolding are_ordered
one-held first lines hold e = go (eqb (length hold) 3) (eqb (length hold % 3) 0) (are_holds first lines hold) refl e
  where
    go : (a b c : Bool) → eqb (length hold) 3 ≡ a → cond (a && (b && c)) Ordered Disordered ≡ Ordered → (length hold ≡ 3) × (c ≡ true)
    go true true true t e = (eqb-true _ _ t, refl)
    go true true false t e = absurd (let z : ◌≡◌ {A = ℕ} 0 1 = cc in omega arith)
    go true false c t e = absurd (let z : ◌≡◌ {A = ℕ} 0 1 = cc in omega arith)
    go false b c t e = absurd (let z : ◌≡◌ {A = ℕ} 0 1 = cc in omega arith)

pub held-line : (first lines : ℕ) (hold : List ℕ) → one_hold first lines hold ≡ Ordered → HoldIn first lines 1 (hold_at hold 0)
held-line first lines hold o = let one = one-held first lines hold o in holds_at first lines hold one.1 0 (omega arith)

-- A held line is past the constants, and so is the line of a pin's gate.
pub line_after : {first lines : ℕ} {h : Hold} → 2 ≤ first → HoldIn first lines 1 h → 2 ≤ h.line
line_after {first} {h = h} l p = go (leb h.value 1) p.after p.gate
  where
    go : (b : Bool) → 1 < cond b h.line (65536 + 2 * h.line + site_of h) → (b || leb first h.line) ≡ true → 2 ≤ h.line
    go true after gate = omega arith
    go false after gate = let from : first ≤ h.line = leb-true _ _ gate in omega arith
