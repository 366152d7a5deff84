-- `write::copy` meets its contract. The loop's invariant: the bytes passed are copied.
use native.Mathlib.Omega.{arith}
use mathlib.Core.Path.{refl, ap, ◌∙◌}
use lib.Seq.{sets, take_all}
use Rattle.files.proofs.WrittenLemmas.{copied_more}
use Rattle.files.proofs.write.copy.Goals as goal

pub loop-i-init : goal.loop-i-init
loop-i-init c = refl

pub loop-i-preserved : goal.loop-i-preserved
loop-i-preserved c = copied_more c.args.file.now c.args.at c.loop-i.i c.args.value.now 0 c.loop-i-test.true c.loop-i.invariant

pub returns : goal.returns
returns c = c.loop-i.invariant ∙ ap (sets c.args.file.now c.args.at) (take_all c.loop-i.i c.args.value.now (omega arith))
