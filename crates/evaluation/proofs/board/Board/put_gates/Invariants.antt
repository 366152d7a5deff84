-- `Board::put_gates` meets its contract. The loop's invariant: the gates passed are worked out, and the next line's hold is awaited.
use Prim.Native.Nat.{◌≤◌}
use mathlib.Core.Path.{◌≡◌}
use lib.ListN.{length}
use Rattle.evaluation.specs.Inner.Walk.{Awaits, worked}
use Rattle.evaluation.proofs.board.Board.put_gates.Given as goal

abbrev pub invariant-loop-x : goal.invariant-loop-x
invariant-loop-x l = record {
  upto : l.x ≤ l.to;
  awaits : Awaits l.self.holds.now l.x l.on_line;
  through : l.lines ≡ worked l.self l.from l.x l.initial.lines;
  room : length l.lines ≡ length l.initial.lines;
}
