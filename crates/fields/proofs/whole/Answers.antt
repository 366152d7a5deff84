-- `whole` meets its contract. The loop's invariant: the file's framing is that of the fields from the cursor on. The measure is what is left of the file.
use native.Mathlib.Omega.{arith}
use mathlib.Core.Path.{sym, ap, ◌∙◌}
use Rattle.fields.specs.Fields.{Fields, fields_of}
use Rattle.fields.proofs.Steps.{stands, walk}
use Rattle.fields.proofs.whole.Goals as goal

pub loop-moved-init : goal.loop-moved-init
unfolding fields_of
loop-moved-init c = rw c.new-cursor.ensures

pub loop-moved-smaller : goal.loop-moved-smaller
loop-moved-smaller c =
    let moved = c in
    let s = stands _ _ _ _ (sym moved.next.ensures ∙ moved.in-Next.is) in
    omega (arith, s)

pub loop-moved-preserved : goal.loop-moved-preserved
loop-moved-preserved c =
    let moved = c in
    let step = moved in
    step.loop-moved.invariant ∙ ap (λ (fs : Fields). fs.framing) (walk _ _ (sym step.next.ensures ∙ moved.in-Next.is))

pub returns-in-End : goal.returns-in-End
returns-in-End c =
    let step = c in
    sym (step.loop-moved.invariant ∙ ap (λ (fs : Fields). fs.framing) (walk _ _ (sym step.next.ensures ∙ c.in-End.is)))

pub returns-in-Cut : goal.returns-in-Cut
returns-in-Cut c =
    let step = c in
    sym (step.loop-moved.invariant ∙ ap (λ (fs : Fields). fs.framing) (walk _ _ (sym step.next.ensures ∙ c.in-Cut.is)))
