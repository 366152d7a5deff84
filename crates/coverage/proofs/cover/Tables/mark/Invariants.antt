-- `cover::Tables::mark` meets its contract. The loop's invariant: the outputs passed have the pattern.
use mathlib.Core.Path.{◌≡◌}
use lib.ListN.{length}
use Rattle.coverage.specs.Inner.Gathering.{Marked}
use Rattle.coverage.proofs.cover.Tables.mark.Given as goal

abbrev pub invariant-loop-j : goal.invariant-loop-j
invariant-loop-j l = record {
  bound : l.j-end ≡ l.self.outputs;
  long : length l.truths ≡ length l.initial.truths;
  marked : Marked l.self.words l.j l.w l.word l.pattern l.initial.truths l.truths;
}
