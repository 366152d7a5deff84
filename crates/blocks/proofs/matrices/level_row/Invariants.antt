-- `matrices::level_row` meets its contract. The loop's invariant: the columns passed are stored.
use mathlib.Core.Path.{◌≡◌}
use lib.ListN.{length}
use Rattle.rules.specs.Blocks.{node_entry}
use Rattle.products.specs.Inner.Cells.{RowStored}
use Rattle.blocks.proofs.matrices.level_row.Given as goal

abbrev pub invariant-loop-v : goal.invariant-loop-v
invariant-loop-v l = (length l.cells ≡ 8) × RowStored l.cells (node_entry l.zero l.one l.l) l.v
