-- `Product::row` meets its contract. The loop's invariant: the columns passed are made and stored.
use mathlib.Core.Path.{◌≡◌}
use lib.ListN.{length}
use Rattle.products.proofs.Rows.{RowTurned}
use Rattle.products.proofs.product.Product.row.Given as goal

abbrev pub invariant-loop-v : goal.invariant-loop-v
invariant-loop-v l = (length l.cells ≡ 8) × RowTurned l.self.middle l.self.left.now l.self.right.now l.u l.v l.initial.gates l.gates l.cells
