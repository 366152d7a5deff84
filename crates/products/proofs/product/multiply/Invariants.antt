-- `product::multiply` meets its contract. The loop's invariant: the rows passed are made and stored.
use mathlib.Core.Path.{◌≡◌}
use lib.ListN.{length}
use Rattle.products.proofs.Rows.{Turned}
use Rattle.products.proofs.product.multiply.Given as goal

abbrev pub invariant-loop-u : goal.invariant-loop-u
invariant-loop-u l = (length l.cells ≡ 8) × Turned l.middle l.columns l.left l.right l.u l.initial.gates l.gates l.cells
