-- `layout::lay` meets its contract.
use native.Mathlib.Omega.{arith}
use mathlib.Core.Path.{◌≡◌, ◌∙◌}
use lib.ListN.{length}
use Rattle.canonical.specs.Inner.Blocks.{mention_at}
use Rattle.canonical.proofs.Laying.{none-laid, first-wide, next-wide, laid_more, answer-wide, answer-whole, laid-narrow, laid-length, laid-whole}
use Rattle.canonical.proofs.layout.lay.Goals as goal

pub returns-in_err-put_outputs-clause-value : goal.returns-in_err-put_outputs-clause-value
returns-in_err-put_outputs-clause-value c =
    let a = c.args in
    c.from_residual.ensures
    ∙ answer-wide _ a.n (length a.outputs.now)
    (first-wide (mention_at a.words.now a.n a.outputs.now) a.n (length a.outputs.now) c.requires.0 c.in_err-put_outputs.ensures.value)

pub loop-l-init : goal.loop-l-init
loop-l-init c =
    let a = c.args in
    none-laid (mention_at a.words.now a.n a.outputs.now) a.n (length a.outputs.now) _ _ _ c.in_ok-put_outputs.ensures.put.starts

pub returns-in_err-put_level-clause-value : goal.returns-in_err-put_level-clause-value
returns-in_err-put_level-clause-value c =
    let a = c.args in
    c.from_residual-in_err-put_level.ensures
    ∙ answer-wide _ a.n (length a.outputs.now)
    (next-wide _ a.n (length a.outputs.now) c.loop-l.invariant c.loop-l-test.true c.in_err-put_level.ensures.value)

pub loop-l-preserved : goal.loop-l-preserved
loop-l-preserved c =
    rw c.as_slice-width.ensures.are
    (laid_more _ c.args.n (length c.args.outputs.now) c.loop-l.invariant c.loop-l-test.true c.in_ok-put_level.ensures.put)

pub returns-clause-value : goal.returns-clause-value
returns-clause-value c =
    let a = c.args in
    let m = length a.outputs.now in
    let end : c.loop-l.l ≡ a.n = omega arith in
    let laid = rw end at c.loop-l.invariant in
    answer-whole _ a.n m (laid-narrow _ a.n m c.loop-l.invariant end) (laid-length _ a.n m laid)

pub returns-clause-written : goal.returns-clause-written
returns-clause-written c =
    let a = c.args in
    let m = length a.outputs.now in
    let end : c.loop-l.l ≡ a.n = omega arith in
    let laid = rw end at c.loop-l.invariant in
    (omega (arith, laid.room, c.requires.1, c.requires.3), laid-whole _ a.n m laid a.file.now c.in_ok-put_outputs.ensures.put.written)
