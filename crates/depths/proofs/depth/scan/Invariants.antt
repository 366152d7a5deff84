-- `depth::scan` meets its contract. The loop's invariant: the depths of the gates passed are known, and the largest.
use Rattle.depths.proofs.Scans.{Scanned}
use Rattle.depths.proofs.depth.scan.Given as goal

abbrev pub invariant-loop-g : goal.invariant-loop-g
invariant-loop-g l = Scanned l.gates l.first l.g l.depths l.deepest
