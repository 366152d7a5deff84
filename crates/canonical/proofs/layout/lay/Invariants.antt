-- `layout::lay` meets its contract. The loop's invariant: the fields of the levels passed are written, none of them too wide.
use lib.ListN.{length}
use Rattle.canonical.specs.Inner.Blocks.{mention_at}
use Rattle.canonical.proofs.Laying.{Laying}
use Rattle.canonical.proofs.layout.lay.Given as goal

abbrev pub invariant-loop-l : goal.invariant-loop-l
invariant-loop-l l = Laying l.words (mention_at l.words l.n l.outputs) l.n (length l.outputs) l.initial.file l.initial.at l.l l.at l.file l.level
