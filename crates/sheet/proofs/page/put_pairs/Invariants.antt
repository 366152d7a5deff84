-- `page::put_pairs` meets its contract. The loop's invariant: the rows of the pairs passed are written.
use mathlib.Core.Path.{◌≡◌}
use lib.ListN.{length}
use Rattle.netlist.specs.Netlist.{pair_at}
use Rattle.sheet.specs.Sheet.{pair_row}
use Rattle.sheet.proofs.Pages.{filled}
use Rattle.sheet.proofs.page.put_pairs.Given as goal

abbrev pub invariant-loop-j : goal.invariant-loop-j
invariant-loop-j l = record {
  room : length l.text ≡ length l.initial.text;
  written : l.text ≡ filled (pair_row l.kind) l.initial.text l.before 0 (pair_at l.pairs) l.j;
}
