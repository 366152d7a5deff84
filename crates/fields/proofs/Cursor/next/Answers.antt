-- `Cursor::next` meets its contract. The loop's invariant: what stands at the cursor is what stands where it began. The measure is what
-- is left of the file.
use native.Mathlib.Omega.{arith}
use mathlib.Core.Path.{refl, sym, ◌∙◌}
use Rattle.fields.proofs.Raw.{raw-stands}
use Rattle.fields.proofs.Steps.{past-note, no_note, step-none}
use Rattle.fields.proofs.Cursor.next.Goals as goal

pub loop-field-init : goal.loop-field-init
loop-field-init c = refl

pub returns-in_default : goal.returns-in_default
returns-in_default c =
    let step = c in
    sym (step.loop-field.invariant ∙ step-none _ _ _ (sym step.raw_next-step.ensures) c.in_default.not-Next)

pub returns-then-field-lt128 : goal.returns-then-field-lt128
returns-then-field-lt128 c =
    let known = c in
    let step = known in
    sym (step.loop-field.invariant ∙ no_note _ _ (sym step.raw_next-step.ensures ∙ known.in-Next.is) (omega (arith, c.if-field-lt128)))

pub loop-field-smaller : goal.loop-field-smaller
loop-field-smaller c =
    let known = c in
    let s = (raw-stands _ _ _ _ (sym known.raw_next-step.ensures ∙ known.in-Next.is)).1 in
    omega (arith, s)

pub loop-field-preserved : goal.loop-field-preserved
loop-field-preserved c =
    let known = c in
    let step = known in
    step.loop-field.invariant ∙ past-note _ _ (sym step.raw_next-step.ensures ∙ known.in-Next.is) (omega (arith, c.if-field-lt128))
