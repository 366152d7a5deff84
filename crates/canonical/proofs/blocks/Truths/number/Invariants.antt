-- `Truths::number` meets its contract. The loop's invariant: the mentions passed are numbered, and the functions first mentioned among
-- them are listed.
use mathlib.Core.Path.{◌≡◌}
use lib.ListN.{take}
use Rattle.fields.specs.Bounded.{listed}
use Rattle.canonical.proofs.Numbering.{number, Entered}
use Rattle.canonical.proofs.blocks.Truths.number.Given as goal

abbrev pub invariant-loop-k : goal.invariant-loop-k
invariant-loop-k l = record {
  entered : Entered l.self.words.now l.self.left l.mentions l.k l.level;
  numbers-are : take l.k l.numbers ≡ listed (number l.self.words.now l.self.left l.mentions) l.k 0;
}
