-- `Diagram::ask_range` meets its contract. The loop's invariant: the mentions of the levels passed name nodes that their levels have.
use native.Mathlib.Omega.{arith}
use Prim.Native.Nat.{◌+◌}
use mathlib.Core.Path.{◌≡◌, sym, ◌∙◌}
use Rattle.fields.proofs.Bounded.{all_none, all_more}
use Rattle.diagram.proofs.Asked.{named, named-is, range-by}
use Rattle.diagram.proofs.Loops.{all_end, all-broken}
use Rattle.diagram.proofs.Diagram.ask_range.Goals.{After-below}
use Rattle.diagram.proofs.Diagram.ask_range.Goals as goal

asked : (c : After-below) → named c.args.self.now c.loop-level.level ≡ c.below.result
asked c = sym (c.below.ensures ∙ named-is _ _ _ c.width.ensures _ c.mentions.ensures)

pub loop-level-init : goal.loop-level-init
loop-level-init c = (omega arith, all_none _)

pub returns-then-not-below : goal.returns-then-not-below
returns-then-not-below c =
    let refused = asked (goal.at.returns-then-not-below c).After-below ∙ c.if-not-below.true in
    range-by _ (all-broken _ _ c.loop-level.level (omega arith) refused)

pub returns-else-not-below : goal.returns-else-not-below
returns-else-not-below c =
    let loop = c.loop-level in
    let passed = asked (goal.at.returns-else-not-below c).After-below ∙ c.if-not-below.false in
    range-by _ (all_end _ _ (loop.level + 1) (omega arith) (omega arith) (all_more _ loop.level loop.invariant.1 passed))

pub loop-level-preserved : goal.loop-level-preserved
loop-level-preserved c =
    let loop = c.loop-level in
    let passed = asked (goal.at.loop-level-preserved c).After-below ∙ c.if-not-below.false in
    (omega arith, all_more _ loop.level loop.invariant.1 passed)
