-- `Board::put_lines` meets its contract: the rails' lines, then the gates', as far as they are wanted.
use native.Mathlib.Omega.{arith}
use Rattle.netlist.specs.Netlist.{holds_of}
use Rattle.evaluation.proofs.Putting.{further-put}
use Rattle.evaluation.proofs.board.Board.put_lines.Goals as goal

pub returns-then-stop-to : goal.returns-then-stop-to
returns-then-stop-to c =
    let a = c.args in
    let b = a.self.now in
    let p = c.requires.bounds in
    further-put (holds_of b.holds.now) b.rails.now b.gates.now a.from c.max-stop.result a.to p.0 (omega (arith, c.max-stop.ensures))
    (omega (arith, c.max-stop.ensures, c.min.ensures, p.1)) p.2 a.lines.now (omega (arith, p.2, c.requires.room))
    c.put_rails-next_gate.ensures.lines_after c.put_all.ensures
