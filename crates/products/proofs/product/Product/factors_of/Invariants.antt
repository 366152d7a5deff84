-- `Product::factors_of` meets its contract. The loop's invariant: the factors passed are found.
use Rattle.products.proofs.Listing.{Found}
use Rattle.products.proofs.product.Product.factors_of.Given as goal

abbrev pub invariant-loop-w : goal.invariant-loop-w
invariant-loop-w l = Found l.self.left.now l.u l.w l.nodes l.some
