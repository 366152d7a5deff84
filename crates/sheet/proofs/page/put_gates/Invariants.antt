-- `page::put_gates` meets its contract. The loop's invariant: the rows of the gates passed are written.
use mathlib.Core.Path.{◌≡◌}
use lib.ListN.{length}
use Rattle.netlist.specs.Netlist.{gate_at}
use Rattle.sheet.specs.Sheet.{gate_row}
use Rattle.sheet.proofs.Pages.{filled}
use Rattle.sheet.proofs.page.put_gates.Given as goal

abbrev pub invariant-loop-g : goal.invariant-loop-g
invariant-loop-g l = record {
  room : length l.text ≡ length l.initial.text;
  written : l.text ≡ filled gate_row l.initial.text 0 l.line (gate_at l.gates) l.g;
}
