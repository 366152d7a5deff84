-- `Product::factors_of` meets its contract. The loop's invariant: the factors passed are found.
use Rattle.products.proofs.Listing.{found_none, found_never, found_always, found_line}
use Rattle.products.proofs.product.Product.factors_of.Goals.{in-Never, in-Always, in-Line}
use Rattle.products.proofs.product.Product.factors_of.Goals as goal

pub loop-w-init : goal.loop-w-init
loop-w-init c = rw c.new-nodes.ensures found_none

pub loop-w-preserved : goal.loop-w-preserved
loop-w-preserved c =
    let found = c.loop-w.invariant in
    elim c.match-self-u.branch [ in-Never w ↦ rw (w.nodes-is, w.some-is) (found_never found w.in-Never.is) | in-Always w ↦ rw (w.nodes-is, w.some-is) (found_always found w.push.ensures w.in-Always.is) | in-Line w ↦ rw (w.nodes-is, w.some-is) (found_line found w.push-in-Line.ensures w.in-Line.is) ]
