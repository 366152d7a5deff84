-- `fit::ask_levels` meets its contract. The loop's invariant: question 4 is that of the levels left and the fields from the cursor on.
use native.Mathlib.Omega.{arith}
use mathlib.Core.Path.{sym, ◌∙◌}
use Rattle.fields.proofs.Steps.{items-next, ended}
use Rattle.table.proofs.Fits.{passed-one, not-level, too_few, enough, too_many}
use Rattle.table.proofs.fit.ask_levels.Goals as goal

pub returns-in_default : goal.returns-in_default
returns-in_default c =
    let loop = c.loop in
    too_few _ _ loop.counter _ loop.invariant.1 c.loop-test.true
    (ended _ _ _ (sym c.next.ensures) c.in_default.not-Next)

pub returns-then-not-has_parts : goal.returns-then-not-has_parts
returns-then-not-has_parts c =
    let loop = c.loop in
    not-level _ _ loop.counter _ loop.invariant.1 c.loop-test.true
    (items-next _ _ (sym c.next.ensures ∙ c.in-Next.is))
    (sym c.has_parts.ensures ∙ c.if-not-has_parts.true)

pub loop-preserved : goal.loop-preserved
loop-preserved c =
    let loop = c.loop in (
      omega arith,
      passed-one _ _ loop.counter _ loop.invariant.1 c.loop-test.true
          (items-next _ _ (sym c.next.ensures ∙ c.in-Next.is))
          (sym c.has_parts.ensures ∙ c.if-not-has_parts.false),
    )

pub returns-in_default-next : goal.returns-in_default-next
returns-in_default-next c =
    let loop = c.loop in
    enough _ _ loop.counter _ loop.invariant.1 c.loop-test.false
    (ended _ _ _ (sym c.next-2.ensures) c.in_default-next.not-Next)

pub returns : goal.returns
returns c =
    let loop = c.loop in
    too_many _ _ loop.counter _ loop.invariant.1 c.loop-test.false
    (items-next _ _ (sym c.next-2.ensures ∙ c.in-Next-next.is))
