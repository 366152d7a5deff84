-- `service::write_file` meets its contract: each return is the case of `writing_of` that the room leads to.
use mathlib.Core.Path.{◌≡◌, sym, ◌∙◌}
use lib.ListN.{length}
use Rattle.files.proofs.Writing.{too_short, written-whole}
use Rattle.netlist.specs.Netlist.{file_with}
use Rattle.netlist.proofs.Written.{length-file}
use Rattle.synthesis.proofs.service.write_file.Goals.{After-length_of-length}
use Rattle.synthesis.proofs.service.write_file.Goals as goal

-- The file's length, as it is worked out.
long : (c : After-length_of-length) →
    c.length_of-length.result ≡ length (file_with c.args.n c.args.gates.now c.args.pairs.now c.args.lamp.now)
long c =
    let a = c.args in
    c.length_of-length.ensures ∙ sym (length-file a.n a.gates.now a.pairs.now a.lamp.now)

pub returns-in_default : goal.returns-in_default
returns-in_default c =
    let room = sym (rw (long (goal.at.returns-in_default c).After-length_of-length) at c.ask_room.ensures) in
    too_short _ c.args.file.now (room ∙ c.in_default.is)

pub returns : goal.returns
returns c =
    let long = long (goal.at.returns c).After-length_of-length in
    written-whole _ c.args.file.now (sym (rw long at c.ask_room.ensures) ∙ c.in-Enough.is) long c.put_file.ensures
