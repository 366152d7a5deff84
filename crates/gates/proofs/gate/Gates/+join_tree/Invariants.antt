-- The measure of `Gates::join_tree` is the count of bytes.
use lib.ListN.{length}
use Rattle.gates.proofs.gate.Gates.+join_tree.Given as goal

abbrev pub decreases-join_tree : goal.decreases-join_tree
decreases-join_tree l = length l.pairs.now
