-- `passes::take_sources` meets its contract. The loop's invariant: the sources before gate g's are written.
use Rattle.search.specs.Inner.Taken.{SourcesTaken}
use Rattle.search.proofs.passes.take_sources.Given as goal

abbrev pub invariant-loop-g : goal.invariant-loop-g
invariant-loop-g l = SourcesTaken l.first l.fn.hold l.g l.board.gates.now l.taken
