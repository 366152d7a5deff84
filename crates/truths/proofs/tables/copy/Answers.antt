-- `tables::copy` meets its contract. The loop's invariant: the words passed are copied.
use native.Mathlib.Nat.{zero-add}
use native.Mathlib.Omega.{arith}
use mathlib.Core.Path.{refl, ap, ◌∙◌}
use mathlib.Core.List.{List, ◌++◌}
use lib.Seq.{sets, sets-eq, take_all}
use Rattle.std.proofs.lemmas.List.{append-nil, drop_all}
use Rattle.files.proofs.WrittenLemmas.{copied_more}
use Rattle.truths.proofs.tables.copy.Goals as goal

pub loop-i-init : goal.loop-i-init
loop-i-init c = refl

pub loop-i-preserved : goal.loop-i-preserved
loop-i-preserved c =
    rw (zero-add c.loop-i.i) at (copied_more c.args.block.now 0 c.loop-i.i c.args.words.now 0 c.loop-i-test.true c.loop-i.invariant)

pub returns : goal.returns
returns c =
    let words = c.args.words.now in
    let block = c.args.block.now in
    c.loop-i.invariant ∙ ap (sets block 0) (take_all c.loop-i.i words (omega arith)) ∙ sets-eq words block 0 (omega (arith, c.requires))
    ∙ ap (λ (l : List _). words ++ l) (drop_all _ block (omega (arith, c.requires))) ∙ append-nil words
