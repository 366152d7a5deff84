-- Demand 2.
use native.Mathlib.Omega.{arith}
use mathlib.Core.Path.{sym, ◌∙◌}
use Rattle.table.proofs.Accepted.{accepted}
use Rattle.table.proofs.Encode.{bytes-are}
use Rattle.table.proofs.SameFile.{same-file}
use Rattle.netlist.proofs.Sound.{Bounds, LampWired}
use Rattle.wiring.proofs.Files.{reads-back, file-determines, file-accepted}
use Rattle.rules.specs.Board.{board_of, table_board}
use Rattle.rules.specs.Promises.{WithinFormulas, BuiltFilesPass, RightCode, DifferentNetlists}
use Rattle.table.specs.Table.{diagram_in}
use Rattle.rules.proofs.Bounds.{gates-within, gates-most, sized-narrow}
use Rattle.rules.proofs.Depths.{depth-bound}
use Rattle.rules.proofs.FileBytes.{file-bytes}
use Rattle.rules.proofs.Held.{run-model}
use Rattle.rules.proofs.Injective.{same-contacts, same-outputs, injective}
use Rattle.rules.proofs.Pairs.{pairs-length}
use Rattle.rules.proofs.Shown.{board-on, board-off}
use Rattle.rules.proofs.Values.{model-right}
use Rattle.rules.proofs.Wired.{board-wired, pairs-wired}

pub within-formulas : WithinFormulas
within-formulas table (bytes, all) =
    let d = diagram_in table in
    let a = accepted table all in
    let some = a.sized.contacts.0 in
    (gates-within d some, gates-most d some a.sized.contacts.1 (sized-narrow d a.sized), depth-bound d some)

pub right-code : RightCode
right-code table (bytes, all) x j h =
    let d = diagram_in table in
    let a = accepted table all in
    let some = a.sized.contacts.0 in
    let right = model-right d x _ (run-model (board_of d) (board-wired d some) x) a.reduced.ranged some j h in
    (board-on d _ j h ∙ right.0, board-off d _ j h ∙ right.1)

pub built-files-pass : BuiltFilesPass
unfolding board_of
built-files-pass table (bytes, all) =
    let d = diagram_in table in
    let net = table_board table in
    let a = accepted table all in
    let s = a.sized in
    let some = s.contacts.0 in
    let p = pairs-length d in
    let bounds : Bounds net =
    record {
      least = some;
      most = s.contacts.1;
      gates = omega (arith, gates-most d some s.contacts.1 (sized-narrow d s));
      some = omega (arith, s.outputs);
      few = omega (arith, s.outputs);
      lamp = omega arith;
    } in
    let wired = board-wired d some in
    let shown = pairs-wired d some in
    let lit : LampWired net = λ j none h. absurd (omega arith) in
    (file-bytes net bounds wired shown lit, file-accepted net bounds wired shown lit, reads-back net)

pub different-netlists : DifferentNetlists
different-netlists a b (abytes, ayes) (bbytes, byes) e =
    let d = diagram_in a in
    let f = diagram_in b in
    let one = file-determines (table_board a) (table_board b) e in
    let some = (accepted a ayes).sized.contacts.0 in
    let same = injective d f one (accepted a ayes).reduced (accepted b byes).reduced some in
    sym (bytes-are a (accepted a ayes)) ∙ same-file d f (same-contacts d f one) (same-outputs d f one) same
    ∙ bytes-are b (accepted b byes)
