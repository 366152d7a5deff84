-- The measure of `Gates::or_tree` is the count of lines.
use lib.ListN.{length}
use Rattle.gates.proofs.gate.Gates.+or_tree.Given as goal

abbrev pub decreases-or_tree : goal.decreases-or_tree
decreases-or_tree l = length l.lines.now
