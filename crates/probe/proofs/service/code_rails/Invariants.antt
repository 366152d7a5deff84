-- `service::code_rails` meets its contract. The loop's invariant: the rails of the contacts before i are written.
use mathlib.Core.Path.{◌≡◌}
use lib.ListN.{length}
use Rattle.probe.proofs.CodeRails.{AreRails}
use Rattle.probe.proofs.service.code_rails.Given as goal

abbrev pub invariant-loop-i : goal.invariant-loop-i
invariant-loop-i l = record { size : length l.pair-items ≡ 12; rails : AreRails l.i l.input l.pair-items }
