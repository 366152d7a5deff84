-- A step goes forward, so that less of the file is left.
use Rattle.std.proofs.Common.{arith, sym, ◌∙◌}
use Rattle.fields.proofs.Steps.{stands}
use Rattle.views.proofs.field_rows.walk.Goals as goal

pub loop-field-smaller : goal.loop-field-smaller
loop-field-smaller g c =
    let s = stands _ _ _ _ (sym c.next.ensures ∙ c.in-Next.is) in
    omega (arith, s)
