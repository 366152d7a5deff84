-- `room::ask_room` meets its contract: each answer is the case that the test leads to.
use borrow.Author.Tests.{le-leb, lt-leb}
use Rattle.files.proofs.room.ask_room.Goals as goal

pub returns-then-wanted-lent : goal.returns-then-wanted-lent
returns-then-wanted-lent c = simp (le-leb _ _ c.if-wanted-lent.true)

pub returns-else-wanted-lent : goal.returns-else-wanted-lent
returns-else-wanted-lent c = simp (lt-leb _ _ c.if-wanted-lent.false)
