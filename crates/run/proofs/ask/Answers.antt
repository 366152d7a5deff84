-- `ask` meets its contract: each return is the first no that the answers lead to.
use Prim.Native.Nat.{ℕ, ◌+◌, ◌*◌, ◌/◌}
use mathlib.Core.Path.{◌≡◌, sym, ap, ◌∙◌}
use lib.ListN.{length}
use Rattle.fields.specs.Refusals.{first_no}
use Rattle.files.specs.Room.{room_of}
use Rattle.netlist.specs.Netlist.{gate_line}
use Rattle.drive.specs.Questions.{order_of, place_of}
use Rattle.run.proofs.ask.Goals.{After-ask_holds, After-ask_place, After-ask_room, After-ask_room-2}
use Rattle.run.proofs.ask.Goals as goal

-- Each answer is of the netlist's parts.
ordered : (c : After-ask_holds) → let p = c.args.parts.now in
    order_of (gate_line p.contacts) (gate_line p.contacts + length p.gates.now / 5) c.args.holds.now ≡ c.ask_holds.result
ordered c = sym (rw (c.gate_line.ensures, c.line_count-count.ensures) at c.ask_holds.ensures)

within : (c : After-ask_place) → let p = c.args.parts.now in
    place_of (gate_line p.contacts + length p.gates.now / 5) c.args.place ≡ c.ask_place.result
within c = sym (c.ask_place.ensures ∙ ap (λ (k : ℕ). place_of k c.args.place) c.line_count-count.ensures)

lines_fit : (c : After-ask_room) → let p = c.args.parts.now in
    room_of (gate_line p.contacts + length p.gates.now / 5) c.args.lines ≡ c.ask_room.result
lines_fit c = sym (c.ask_room.ensures ∙ ap (λ (k : ℕ). room_of k c.args.lines) c.line_count-count.ensures)

pairs_fit : (c : After-ask_room-2) → let p = c.args.parts.now in
    room_of (2 * (length p.outputs.now / 4 + length p.lamp.now / 4)) c.args.pairs ≡ c.ask_room-2.result
pairs_fit c = sym (c.ask_room-2.ensures ∙ ap (λ (k : ℕ). room_of (2 * k) c.args.pairs) c.pair_count.ensures)

pub returns-in_default : goal.returns-in_default
unfolding first_no
returns-in_default c = rw (sym c.ask_rails.ensures ∙ c.in_default.is)

pub returns-in_default-ask_holds : goal.returns-in_default-ask_holds
unfolding first_no
returns-in_default-ask_holds c =
    let at = goal.at.returns-in_default-ask_holds c in
    rw (sym c.ask_rails.ensures ∙ c.in-Driven.is, ordered at.After-ask_holds ∙ c.in_default-ask_holds.is)

pub returns-in_default-ask_place : goal.returns-in_default-ask_place
unfolding first_no
returns-in_default-ask_place c =
    let at = goal.at.returns-in_default-ask_place c in
    rw (
      sym c.ask_rails.ensures ∙ c.in-Driven.is,
      ordered at.After-ask_holds ∙ c.in-Ordered.is,
      within at.After-ask_place ∙ c.in_default-ask_place.is,
    )

pub returns-in_default-ask_room : goal.returns-in_default-ask_room
unfolding first_no
returns-in_default-ask_room c =
    let at = goal.at.returns-in_default-ask_room c in
    rw (
      sym c.ask_rails.ensures ∙ c.in-Driven.is,
      ordered at.After-ask_holds ∙ c.in-Ordered.is,
      within at.After-ask_place ∙ c.in-Within.is,
      lines_fit at.After-ask_room ∙ c.in_default-ask_room.is,
    )

pub returns-in_default-ask_room-2 : goal.returns-in_default-ask_room-2
unfolding first_no
returns-in_default-ask_room-2 c =
    let at = goal.at.returns-in_default-ask_room-2 c in
    rw (
      sym c.ask_rails.ensures ∙ c.in-Driven.is,
      ordered at.After-ask_holds ∙ c.in-Ordered.is,
      within at.After-ask_place ∙ c.in-Within.is,
      lines_fit at.After-ask_room ∙ c.in-Enough.is,
      pairs_fit at.After-ask_room-2 ∙ c.in_default-ask_room-2.is,
    )

pub returns : goal.returns
unfolding first_no
returns c =
    let at = goal.at.returns c in
    rw (
      sym c.ask_rails.ensures ∙ c.in-Driven.is,
      ordered at.After-ask_holds ∙ c.in-Ordered.is,
      within at.After-ask_place ∙ c.in-Within.is,
      lines_fit at.After-ask_room ∙ c.in-Enough.is,
      pairs_fit at.After-ask_room-2 ∙ c.in-Enough-ask_room.is,
    )
