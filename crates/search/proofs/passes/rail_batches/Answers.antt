-- `passes::rail_batches` meets its contract: a false rail's batch is its true rail's with each bit flipped.
use Rattle.bits.proofs.Bits.{bit-flip}
use Rattle.search.proofs.passes.rail_batches.Goals as goal

pub returns-clause-off_first : goal.returns-clause-off_first
returns-clause-off_first c = λ k l. bit-flip k _ _ l (c.rail_batch-first.ensures k l)

pub returns-clause-off_second : goal.returns-clause-off_second
returns-clause-off_second c = λ k l. bit-flip k _ _ l (c.rail_batch-second.ensures k l)
