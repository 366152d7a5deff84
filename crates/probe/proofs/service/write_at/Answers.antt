-- `service::write_at` meets its contract: the file, then the line values over the part of the buffer behind it.
use native.Mathlib.Omega.{arith}
use native.Mathlib.Nat.{add-zero}
use mathlib.Core.Path.{◌≡◌, refl, ◌∙◌}
use mathlib.Core.List.{[]}
use lib.ListN.{length}
use Rattle.netlist.specs.Netlist.{hold_at, file_with, net_of}
use Rattle.netlist.proofs.Written.{length-file}
use Rattle.faults.specs.Betrayal.{stuck_at}
use Rattle.probe.proofs.Findings.{written_behind}
use Rattle.probe.proofs.service.write_at.Goals as goal

pub returns : goal.returns
returns c =
    let args = c.args in
    let kept : length c.put_file.new.file ≡ length args.buffer.now = c.put_file.auto.file in record {
      value = refl;
      buffer_after = written_behind (file_with args.board.contacts args.board.gates.now args.board.pairs.now [])
          (stuck_at (net_of args.board.contacts args.board.gates.now args.board.pairs.now) (hold_at args.hold.now 0) args.input) args.buffer.now _ _
          (length-file args.board.contacts args.board.gates.now args.board.pairs.now [] ∙ add-zero _) refl (omega arith) kept c.put_file.ensures
          c.show_at.ensures;
    }
