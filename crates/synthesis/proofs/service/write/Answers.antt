-- `service::write` meets its contract: the file of what is written is that of the board, with its lamp or without.
use native.Mathlib.Omega.{arith}
use Prim.Native.Nat.{ℕ}
use mathlib.Core.Path.{refl, ap, ◌∙◌}
use mathlib.Core.List.{List}
use lib.ListN.{length-replicate}
use Rattle.files.specs.Room.{writing_of}
use Rattle.synthesis.proofs.FilesWritten.{plain-fits, pairs-taken, plain-file, lamp-file}
use Rattle.synthesis.proofs.service.write.Goals as goal

pub put_board-requires-clause-begun : goal.put_board-requires-clause-begun
put_board-requires-clause-begun g c =
    let room = plain-fits c.args.lamp c.args.d.now c.requires.0 c.requires.2 in
    rw c.begin-gates.ensures (record { first = refl; none = refl; room = rw length-replicate room })

pub put_lamp-requires-clause-sized : goal.put_lamp-requires-clause-sized
put_lamp-requires-clause-sized g c =
    (c.requires.0, pairs-taken c.args.d.now c.requires.0 _ (omega arith) c.put_board.ensures.pairs_after, omega arith)

pub returns-in-Without : goal.returns-in-Without
returns-in-Without g c =
    let d = c.args.d.now in
    let made = c.put_board.ensures in
    let pairs = pairs-taken d c.requires.0 _ (omega arith) made.pairs_after in
    let whole = plain-file d pairs (c.bytes.ensures ∙ made.gates_after.made.bytes) in
    rw c.in-Without.is (c.write_file.ensures ∙ ap (λ (file : List ℕ). writing_of 0 file c.args.file.now) whole)

pub returns-in-With : goal.returns-in-With
returns-in-With g c =
    let d = c.args.d.now in
    let made = c.put_board.ensures in
    let lamp = c.put_lamp.ensures in
    let pairs = pairs-taken d c.requires.0 _ (omega arith) made.pairs_after in
    let whole = lamp-file d pairs (c.bytes-in-With.ensures ∙ lamp.gates_after.bytes) lamp.lamp_after in
    rw c.in-With.is (c.write_file-in-With.ensures ∙ ap (λ (file : List ℕ). writing_of 0 file c.args.file.now) whole)
