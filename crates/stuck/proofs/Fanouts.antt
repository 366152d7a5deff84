-- Question 15 of an accepted table's board, by the edges of its levels.
use Prim.Native.Nat.{ℕ, ◌-◌, ◌/◌, ◌%◌, ◌≤◌, ◌<◌}
use native.Mathlib.Decide.{ℕ_discrete}
use native.Mathlib.Omega.{arith}
use mathlib.Core.Path.{◌≡◌, refl}
use mathlib.Core.Bool.{Bool, true, false, cond}
use mathlib.Core.Logic.{by_cases}
use Rattle.diagram.specs.declared.Diagram.{Diagram}
use Rattle.diagram.proofs.Paths.{Branches}
use Rattle.netlist.specs.Netlist.{gate_line, line_count}
use Rattle.rules.specs.Board.{board_of}
use Rattle.faults.proofs.RailsShown.{rail_of}
use Rattle.faults.proofs.Spare.{gate-read, rail-read, rail-unread}
use Rattle.stuck.specs.declared.fanout.Fanout.TheVariants.{Read, Unread}
use Rattle.stuck.specs.Inner.Findings.{AcceptedDiagram}
use Rattle.stuck.specs.Service.{fanout_of, fanout_number}
use Rattle.stuck.proofs.Boards.{sized, reduced}

pub read-zero : (b : Bool) → fanout_number (cond b Read Unread) ≡ 0 → b ≡ true
read-zero true e = refl
read-zero false e = absurd (omega arith)

-- A line below the gates is a rail.
rail-at : (y : ℕ) → 2 ≤ y → (t : Bool) × (rail_of ((y - 2) / 2) t ≡ y)
rail-at y low =
    by_cases (ℕ_discrete ((y - 2) % 2) 0) (λ even. (true, omega arith)) (λ odd. (false, omega arith))

module _ {d : Diagram} (drawn : AcceptedDiagram d) (y : ℕ) where
  some : 1 ≤ d.contacts
  some = (sized drawn).contacts.0

  pub gate-fanout : gate_line d.contacts ≤ y → y < line_count (board_of d) → Read ≡ fanout_of (board_of d) y
  gate-fanout from below = rw (gate-read d some (reduced drawn) y from below)

  module _ (low : 2 ≤ y) (high : y < gate_line d.contacts) where
    pub fork-fanout : Branches d ((y - 2) / 2) → Read ≡ fanout_of (board_of d) y
    fork-fanout branch =
        let (t, e) = rail-at y low in
        rw (rw e at (rail-read d some (reduced drawn) ((y - 2) / 2) (omega arith) t branch))

    pub straight-fanout : (Branches d ((y - 2) / 2) → ⊥) → Unread ≡ fanout_of (board_of d) y
    straight-fanout straight =
        let (t, e) = rail-at y low in
        rw (rw e at (rail-unread d some (reduced drawn) ((y - 2) / 2) (omega arith) t straight))
