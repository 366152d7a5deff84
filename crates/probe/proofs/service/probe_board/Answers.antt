-- `service::probe_board` meets its contract: each return is the case of `probing_on` that the hold, its line and the room lead to.
use native.Mathlib.Omega.{arith}
use Prim.Native.Nat.{◌+◌, ◌*◌}
use mathlib.Core.Path.{◌≡◌, refl, sym, ap, ◌∙◌}
use lib.ListN.{length, take}
use Rattle.stuck.specs.Inner.Findings.{ProbeReady}
use lib.Seq.{length-take-le}
use Rattle.drive.specs.declared.Holds.TheVariants.{Ordered}
use Rattle.netlist.specs.Netlist.{gate_line, hold_at}
use Rattle.rules.specs.Board.{board_of}
use Rattle.stuck.proofs.Made.{gates-few, taken-gates, taken-pairs}
use Rattle.stuck.specs.Service.{one_hold, fanout_of}
use Rattle.stuck.proofs.Boards.{gates_on, pairs_on, sized, reduced}
use Rattle.stuck.proofs.OneHold.{one-held, held-line, line_after}
use Rattle.stuck.proofs.Outcomes.{lines_are, disordered, unread, short, ready, found}
use Rattle.probe.proofs.service.probe_board.Goals.{After-ask_fanout, After-synthesise-made, In-Enough, In-Ordered}
use Rattle.probe.proofs.service.probe_board.Goals as goal

-- The bytes of the gates and of the pairs that are made.
gates-taken : (c : After-synthesise-made) → take (5 * c.synthesise-made.result) c.synthesise-made.new.out ≡ gates_on (board_of c.args.d.now)
gates-taken c = taken-gates _ (sized c.requires.0) c.synthesise-made.ensures.value _ c.requires.1 c.synthesise-made.ensures.out_after

pairs-taken : (c : After-synthesise-made) → take (4 * c.args.d.now.outputs) c.synthesise-made.new.pairs ≡ pairs_on (board_of c.args.d.now)
pairs-taken c =
    let s = sized c.requires.0 in
    taken-pairs _ s c.synthesise-made.ensures.value _ (omega (arith, s.outputs)) c.synthesise-made.ensures.pairs_after

-- Question 14's yes, and question 15's.
ordered : (c : In-Ordered) →
    one_hold (gate_line c.args.d.now.contacts) (gate_line c.args.d.now.contacts + c.synthesise-made.result) c.args.hold.now ≡ Ordered
ordered c = sym c.ask_one_hold.ensures ∙ c.in-Ordered.is

answered : (c : After-ask_fanout) → c.ask_fanout.result ≡ fanout_of (board_of c.args.d.now) (hold_at c.args.hold.now 0).line
answered c = c.ask_fanout.ensures ∙ ap (fanout_of (board_of c.args.d.now)) c.number_at-line.ensures

pub synthesise-made-requires : goal.synthesise-made-requires
synthesise-made-requires c =
    let pre = c.requires in
    let s = sized pre.0 in
    (s, (reduced pre.0).ranged, pre.1, omega (arith, s.outputs))

pub overflow_mul-first : goal.overflow_mul-first
overflow_mul-first c = omega (arith, (sized c.requires.0).contacts)

pub overflow_add-first : goal.overflow_add-first
overflow_add-first c = omega (arith, (sized c.requires.0).contacts)

pub overflow_add-lines : goal.overflow_add-lines
overflow_add-lines c = let s = sized c.requires.0 in omega (arith, s.contacts, gates-few c.args.d.now s c.synthesise-made.ensures.value)

pub returns-in_default : goal.returns-in_default
returns-in_default c =
    disordered c.requires.0 c.synthesise-made.ensures.value c.args.hold.now _ (sym c.ask_one_hold.ensures ∙ c.in_default.is) refl

pub number_at-line-requires : goal.number_at-line-requires
number_at-line-requires c =
    let one = one-held _ _ c.args.hold.now (ordered (goal.at.number_at-line-requires c).In-Ordered) in omega (arith, one.0)

pub ask_fanout-requires : goal.ask_fanout-requires
ask_fanout-requires c =
    let made = c.synthesise-made.ensures.value in
    let h = held-line _ _ c.args.hold.now (rw (lines_are c.requires.0 made) at (ordered (goal.at.ask_fanout-requires c).In-Ordered)) in
    let line = c.number_at-line.ensures in
    (c.requires.0, rw line (line_after (omega arith) h), rw line h.within)

pub returns-in_default-ask_fanout : goal.returns-in_default-ask_fanout
returns-in_default-ask_fanout c =
    let at = goal.at.returns-in_default-ask_fanout c in
    unread c.requires.0 c.synthesise-made.ensures.value c.args.hold.now _ (ordered at.In-Ordered)
    (sym (answered at.After-ask_fanout) ∙ c.in_default-ask_fanout.is)
    refl

pub overflow_mul-pair_bytes : goal.overflow_mul-pair_bytes
overflow_mul-pair_bytes c = omega (arith, (sized c.requires.0).outputs)

pub overflow_add-gate_bytes-2 : goal.overflow_add-gate_bytes-2
overflow_add-gate_bytes-2 c =
    let s = sized c.requires.0 in omega (arith, s.outputs, gates-few c.args.d.now s c.synthesise-made.ensures.value)

pub overflow_add-gate_bytes-3 : goal.overflow_add-gate_bytes-3
overflow_add-gate_bytes-3 c =
    let s = sized c.requires.0 in omega (arith, s.contacts, s.outputs, gates-few c.args.d.now s c.synthesise-made.ensures.value)

pub returns-in_default-ask_room : goal.returns-in_default-ask_room
returns-in_default-ask_room c =
    let at = goal.at.returns-in_default-ask_room c in
    short c.requires.0 c.synthesise-made.ensures.value c.args.hold.now _ (ordered at.In-Ordered) (sym (answered at.After-ask_fanout) ∙ c.in-Read.is)
    (sym c.ask_room.ensures ∙ c.in_default-ask_room.is)
    refl

pub slice_bounds-pairs-end : goal.slice_bounds-pairs-end
slice_bounds-pairs-end c = omega (arith, (sized c.requires.0).outputs)

pub slice_bounds-board-end-3 : goal.slice_bounds-board-end-3
slice_bounds-board-end-3 c = sym (length-take-le _ _ (omega (arith, (sized c.requires.0).outputs)))

-- The board is searched, and its file written.
prepared : (c : In-Enough) →
    ProbeReady c.args.d.now.contacts (take (5 * c.synthesise-made.result) c.synthesise-made.new.out)
    (take (4 * c.args.d.now.outputs) c.synthesise-made.new.pairs) c.args.hold.now (length c.args.buffer.now)
prepared c =
    let at = goal.at.In-Enough c in
    ready c.requires.0 c.synthesise-made.ensures.value _ c.args.buffer.now (ordered at.In-Ordered) (sym (answered at.After-ask_fanout) ∙ c.in-Read.is)
    (gates-taken at.After-synthesise-made) (pairs-taken at.After-synthesise-made) (sym c.ask_room.ensures ∙ c.in-Enough.is)

pub invariant_of-board : goal.invariant_of-board
invariant_of-board c =
    let p = (prepared (goal.at.invariant_of-board c).In-Enough).searchable in
    record { few = p.few; fits = p.fits; wired = p.wired; paired = p.paired }

pub find-requires : goal.find-requires
find-requires c = (prepared (goal.at.find-requires c).In-Enough).writable

pub returns : goal.returns
returns c =
    let at = goal.at.returns c in
    found c.requires.0 c.synthesise-made.ensures.value c.args.hold.now c.args.buffer.now (ordered at.In-Ordered)
    (sym (answered at.After-ask_fanout) ∙ c.in-Read.is) (gates-taken at.After-synthesise-made) (pairs-taken at.After-synthesise-made)
    (sym c.ask_room.ensures ∙ c.in-Enough.is) c.find.ensures
