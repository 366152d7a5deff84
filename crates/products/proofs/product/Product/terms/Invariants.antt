-- `Product::terms` meets its contract. The loop's invariant: the terms of the middle nodes passed are made and their lines listed.
use lib.ListN.{drop}
use Rattle.products.proofs.Listing.{PassedNodes}
use Rattle.products.proofs.product.Product.terms.Given as goal

abbrev pub invariant-loop-w : goal.invariant-loop-w
invariant-loop-w l = PassedNodes l.self.left.now l.self.right.now l.u l.v l.self.middle (drop l.w-index l.nodes) l.initial.gates l.gates l.lines
