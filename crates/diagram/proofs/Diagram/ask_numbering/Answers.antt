-- `Diagram::ask_numbering` meets its contract. The loop's invariant: the levels passed are mentioned in turn.
use native.Mathlib.Omega.{arith}
use mathlib.Core.Path.{◌≡◌, sym, ◌∙◌}
use Rattle.fields.proofs.Bounded.{all_none, all_more}
use Rattle.diagram.proofs.Asked.{turned, turned-is, numbering-by}
use Rattle.diagram.proofs.Loops.{all_end, all-broken}
use Rattle.diagram.proofs.Diagram.ask_numbering.Goals.{After-in_turn}
use Rattle.diagram.proofs.Diagram.ask_numbering.Goals as goal

asked : (c : After-in_turn) → turned c.args.self.now c.loop-level.level ≡ c.in_turn.result
asked c = sym (c.in_turn.ensures ∙ turned-is _ _ _ c.width.ensures _ c.mentions.ensures)

pub loop-level-init : goal.loop-level-init
loop-level-init c = (omega arith, all_none _)

pub returns-then-not-in_turn : goal.returns-then-not-in_turn
returns-then-not-in_turn c =
    let refused = asked (goal.at.returns-then-not-in_turn c).After-in_turn ∙ c.if-not-in_turn.true in
    numbering-by _ (all-broken _ _ c.loop-level.level c.loop-level-test.true refused)

pub loop-level-preserved : goal.loop-level-preserved
loop-level-preserved c =
    let loop = c.loop-level in
    let passed = asked (goal.at.loop-level-preserved c).After-in_turn ∙ c.if-not-in_turn.false in
    (omega arith, all_more _ loop.level loop.invariant.1 passed)

pub returns : goal.returns
returns c =
    let loop = c.loop-level in
    numbering-by _ (all_end _ _ loop.level loop.invariant.0 c.loop-level-test.false loop.invariant.1)
