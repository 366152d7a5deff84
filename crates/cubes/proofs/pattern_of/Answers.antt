-- `pattern_of` meets its contract.
use native.Mathlib.Omega.{arith}
use Prim.Native.Nat.{ℕ, ◌-◌, ◌+◌}
use mathlib.Core.Path.{◌≡◌, ap₂, ◌∙◌}
use Rattle.diagram.specs.Diagram.{bit, input_of}
use Rattle.cubes.proofs.Cubes.{low-none, low-more}
use Rattle.cubes.proofs.pattern_of.Goals as goal

pub loop-contact-init : goal.loop-contact-init
loop-contact-init c =
    let none : c.args.fixed - c.args.fixed ≡ 0 = omega arith in
    rw none (low-none _ _ _)

pub loop-contact-preserved : goal.loop-contact-preserved
loop-contact-preserved c =
    let loop = c.loop-contact in
    let next : loop.contact + 1 - c.args.fixed ≡ loop.contact - c.args.fixed + 1 = omega arith in
    rw next (low-more _ _ (loop.contact - c.args.fixed) loop.contact _ _ _ _ (omega arith) loop.invariant
    (λ k h. c.rail_batch.ensures k h ∙ ap₂ (λ (q p : ℕ). bit (input_of q p)) (omega arith) (omega arith))
    c.narrow-pattern.ensures)
