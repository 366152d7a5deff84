-- `Truths::number_constants` meets its contract. The loop's invariant: the mentions passed are numbered.
use mathlib.Core.Path.{◌≡◌}
use lib.ListN.{take}
use Rattle.fields.specs.Bounded.{listed}
use Rattle.canonical.proofs.Numbering.{number}
use Rattle.canonical.proofs.blocks.Truths.number_constants.Given as goal

abbrev pub invariant-loop-k : goal.invariant-loop-k
invariant-loop-k l = take l.k l.numbers ≡ listed (number l.self.words.now 0 l.mentions) l.k 0
