-- `Gates::term` meets its contract, case by case.
use Rattle.rules.specs.declared.Entry.TheVariants.{Line}
use Rattle.rules.specs.Make.{return}
use Rattle.rules.specs.Blocks.{term}
use Rattle.gates.proofs.Rooms.{room-first}
use Rattle.gates.proofs.Writing.{written-return, written-bind}
use Rattle.gates.proofs.gate.Gates.term.Goals as goal

pub gate-requires : goal.gate-requires
unfolding term
gate-requires c = room-first _ (λ x. return (Line x)) (rw (c.in-Line.is, c.in-Line-right.is) at c.requires)

pub returns-in-Never : goal.returns-in-Never
unfolding term
returns-in-Never c = rw c.in-Never.is (written-return _)

pub returns-in-Always : goal.returns-in-Always
unfolding term
returns-in-Always c = rw c.in-Always.is (written-return _)

pub returns-in-Never-right : goal.returns-in-Never-right
unfolding term
returns-in-Never-right c = rw (c.in-Line.is, c.in-Never-right.is) (written-return _)

pub returns-in-Always-right : goal.returns-in-Always-right
unfolding term
returns-in-Always-right c = rw (c.in-Line.is, c.in-Always-right.is) (written-return _)

pub returns-in-Line-right : goal.returns-in-Line-right
unfolding term
returns-in-Line-right c =
    rw (c.in-Line.is, c.in-Line-right.is) (written-bind (λ x. return (Line x)) c.gate.ensures (written-return _))
