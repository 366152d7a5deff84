-- `cover::Tables::mark` meets its contract.
use mathlib.Core.Path.{refl}
use Rattle.std.proofs.Common.{rules}
use Rattle.coverage.proofs.Marks.{marked-one}
use Rattle.coverage.proofs.cover.Tables.mark.Goals as goal

pub loop-j-preserved : goal.loop-j-preserved
loop-j-preserved c = record {
  bound = c.loop-j.invariant.bound;
  long = search rules;
  marked =
      rw c.mark_one.ensures
      (marked-one _ _ _ _ c.requires.0 _ c.loop-j.j c.loop-j.truths c.loop-j.invariant.marked _ refl (search rules));
}
