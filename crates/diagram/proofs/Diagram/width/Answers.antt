-- `Diagram::width` meets its contract: each answer is the case that the test picks.
use borrow.Author.Tests.{lt-ltb, le-ltb}
use Rattle.diagram.specs.Diagram.{width}
use Rattle.diagram.proofs.Diagram.width.Goals as goal

pub returns-then-level-self : goal.returns-then-level-self
unfolding width
returns-then-level-self c = simp (lt-ltb _ _ c.if-level-self.true)

pub returns-else-level-self : goal.returns-else-level-self
unfolding width
returns-else-level-self c = simp (le-ltb _ _ c.if-level-self.false)
