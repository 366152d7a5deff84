-- `numbers::mix` meets its contract: bit by bit.
use Rattle.truths.proofs.Words.{chosen-bit}
use Rattle.truths.proofs.numbers.mix.Goals as goal

pub returns : goal.returns
returns c = λ k b h e. chosen-bit k _ _ _ b h c.ranges.closed.fits e
