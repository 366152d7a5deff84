-- Demand 3 of boards and stuck lines.
use mathlib.Core.Path.{◌≡◌}
use mathlib.Core.Logic.{inl, inr, ⊎_elim}
use Rattle.table.proofs.Accepted.{accepted}
use Rattle.netlist.specs.Netlist.{level_of, holds_of, file_of}
use Rattle.simulation.proofs.Whole.{run-values}
use Rattle.wiring.proofs.Files.{reads-back}
use Rattle.rules.specs.Board.{board_of}
use Rattle.table.specs.Table.{diagram_in}
use Rattle.rules.proofs.Values.{no-wrong-code}
use Rattle.rules.proofs.Wired.{board-wired}
use Rattle.faults.specs.Promises.{NoWrongCode, NoUnseenLine, RunWrites}
use Rattle.faults.proofs.Betrayed.{shows-by, seen}
use Rattle.rules.proofs.Held.{one-way-run}
use Rattle.faults.proofs.HeldLines.{all-holds}

pub no-wrong-lines : NoWrongCode
no-wrong-lines table (bytes, all) b bound holds (ordered, way) x j h =
    let d = diagram_in table in
    let a = accepted table all in
    let some = a.sized.contacts.0 in
    let run = one-way-run (board_of d) (board-wired d some) x b bound (holds_of holds) (all-holds (λ h. level_of h ≡ b) holds way) in
    ⊎_elim (λ (p, q). inl (shows-by d _ j h _ _ p q)) (λ (p, q). inr (shows-by d _ j h _ _ p q))
    (no-wrong-code d a.reduced.ranged some x b _ bound run j h)

pub no-unseen-line : NoUnseenLine
no-unseen-line table all y b low read bound = seen table all y b low read bound

pub run-writes : RunWrites
run-writes net rails holds lines pairs e = rw (reads-back net) at (run-values (file_of net) rails holds lines pairs e)
