-- The measure of `Words::put_block`: the count of contacts left.
use Rattle.truths.proofs.tables.Words.+put_block.Given as goal

abbrev pub decreases-put_block : goal.decreases-put_block
decreases-put_block l = l.left
