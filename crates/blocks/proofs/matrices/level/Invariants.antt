-- `matrices::level` meets its contract. The loop's invariant: the rows passed are stored.
use mathlib.Core.Path.{◌≡◌}
use lib.ListN.{length}
use Rattle.rules.specs.Blocks.{level_entry}
use Rattle.products.specs.Inner.Cells.{Stored}
use Rattle.blocks.proofs.matrices.level.Given as goal

abbrev pub invariant-loop-u : goal.invariant-loop-u
invariant-loop-u l = (length l.cells ≡ 8) × Stored l.cells (level_entry l.d l.l) l.u l.columns
