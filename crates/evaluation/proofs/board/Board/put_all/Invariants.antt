-- `Board::put_all` meets its contract. The loop's invariant: the gates passed are worked out, and the walk awaits the next holds.
use Prim.Native.Nat.{◌+◌, ◌-◌, ◌≤◌}
use mathlib.Core.Path.{◌≡◌}
use lib.ListN.{length}
use Rattle.evaluation.specs.Inner.Walk.{Walks, worked}
use Rattle.evaluation.proofs.board.Board.put_all.Given as goal

abbrev pub invariant-loop-cursor : goal.invariant-loop-cursor
invariant-loop-cursor l = record {
  from : l.from ≤ l.at;
  upto : l.at ≤ l.to;
  walks : Walks l.self.holds.now l.at l.cursor;
  through : l.lines ≡ worked l.self l.from l.at l.initial.lines;
  room : length l.lines ≡ length l.initial.lines;
}

abbrev pub decreases-loop-cursor : goal.decreases-loop-cursor
decreases-loop-cursor l = l.to + 1 - l.at
