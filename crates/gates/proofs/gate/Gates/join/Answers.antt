-- `Gates::join` meets its contract: six gates, one after another.
use Rattle.rules.specs.Lamp.{join}
use Rattle.gates.proofs.Rooms.{room-gate, room-next}
use Rattle.gates.proofs.Writing.{written-return, written-bind}
use Rattle.gates.proofs.gate.Gates.join.Goals as goal

pub returns : goal.returns
unfolding join
returns c =
    written-bind _ c.gate-both.ensures (written-bind _ c.gate-neither.ensures (written-bind _ c.gate-on.ensures
    (written-bind _ c.gate-one.ensures (written-bind _ c.gate-other.ensures (written-bind _ c.gate-off.ensures (written-return _))))))

pub gate-both-requires : goal.gate-both-requires
gate-both-requires c = room-gate c.requires

pub gate-neither-requires : goal.gate-neither-requires
gate-neither-requires c = room-gate (room-next c.requires c.gate-both.ensures)

pub gate-on-requires : goal.gate-on-requires
gate-on-requires c = room-gate (room-next (room-next c.requires c.gate-both.ensures) c.gate-neither.ensures)

pub gate-one-requires : goal.gate-one-requires
gate-one-requires c =
    room-gate (room-next (room-next (room-next c.requires c.gate-both.ensures) c.gate-neither.ensures) c.gate-on.ensures)

pub gate-other-requires : goal.gate-other-requires
gate-other-requires c =
    room-gate
    (room-next (room-next (room-next (room-next c.requires c.gate-both.ensures) c.gate-neither.ensures) c.gate-on.ensures)
    c.gate-one.ensures)

pub gate-off-requires : goal.gate-off-requires
gate-off-requires c =
    room-gate
    (room-next
    (room-next (room-next (room-next (room-next c.requires c.gate-both.ensures) c.gate-neither.ensures) c.gate-on.ensures)
    c.gate-one.ensures)
    c.gate-other.ensures)
