-- `service::sheet` meets its contract: each refusal and the end are the case of `sheeting_of` that the answers lead to.
use native.Mathlib.Omega.{arith}
use Prim.Native.Nat.{◌≤◌, ◌<◌}
use mathlib.Core.Path.{◌≡◌, sym, ◌∙◌}
use lib.ListN.{length}
use Rattle.std.proofs.lemmas.Result.{err_from_is_err_and}
use Rattle.files.specs.Room.{room_of}
use Rattle.files.proofs.Buffers.{enough}
use Rattle.sheet.specs.Inner.Places.{end_of, rows_by}
use Rattle.sheet.proofs.Outcomes.{unread, counts, short, done}
use Rattle.sheet.proofs.service.sheet.Goals.{In_ok-parts, After-ask_room}
use Rattle.sheet.proofs.service.sheet.Goals as goal

-- Question 9 about the sheet's own length.
room : (c : After-ask_room) → room_of (end_of (rows_by c.in_ok-parts.parts)) (length c.args.text.now) ≡ c.ask_room.result
room c = sym (rw (c.length_of-length.ensures, c.rows_of.ensures) at c.ask_room.ensures)

few : (c : In_ok-parts) → (0 < rows_by c.in_ok-parts.parts) × (rows_by c.in_ok-parts.parts ≤ 10611)
few c = counts (sym c.in_ok-parts.ensures.refusal) c.in_ok-parts.ensures.parts

pub returns-in_err-parts : goal.returns-in_err-parts
returns-in_err-parts c =
    let a = c.args in
    let p = err_from_is_err_and c.from_residual.result c.from_residual.ensures.1 in
    rw (p.1, p.2) (unread a.netlist.now a.text.now c.in_err-parts.field-0.0 c.in_err-parts.ensures.refusal)

pub length_of-length-requires : goal.length_of-length-requires
length_of-length-requires c =
    let n = few (goal.at.length_of-length-requires c).In_ok-parts in
    (omega (arith, n.0, c.rows_of.ensures), omega (arith, n.1, c.rows_of.ensures))

pub returns-in_default : goal.returns-in_default
returns-in_default c =
    let read = c.in_ok-parts.ensures in
    short (sym read.refusal) read.parts c.args.text.now (room (goal.at.returns-in_default c).After-ask_room ∙ c.in_default.is)

pub put_sheet-requires : goal.put_sheet-requires
put_sheet-requires c = enough _ _ (room (goal.at.put_sheet-requires c).After-ask_room ∙ c.in-Enough.is)

pub overflow_cast-result : goal.overflow_cast-result
overflow_cast-result c =
    omega (arith, c.length_of-length.ensures, c.rows_of.ensures, (few (goal.at.overflow_cast-result c).In_ok-parts).1)

pub returns : goal.returns
returns c =
    let read = c.in_ok-parts.ensures in
    done (sym read.refusal) read.parts c.args.text.now (room (goal.at.returns c).After-ask_room ∙ c.in-Enough.is)
    (rw c.rows_of.ensures at c.length_of-length.ensures) c.put_sheet.ensures
