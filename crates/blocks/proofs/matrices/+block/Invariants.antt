-- The measure of `matrices::block` is the count of levels.
use Rattle.blocks.proofs.matrices.+block.Given as goal

abbrev pub decreases-block : goal.decreases-block
decreases-block l = l.count
