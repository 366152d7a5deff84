-- `product::multiply` meets its contract. The loop's invariant: the rows passed are made and stored.
use native.Mathlib.Omega.{arith}
use mathlib.Core.Path.{◌≡◌}
use lib.ListN.{length-set}
use Rattle.products.proofs.Rows.{begun, longer, product-room}
use Rattle.products.proofs.product.multiply.Goals as goal

pub loop-u-init : goal.loop-u-init
loop-u-init c = (omega arith, begun _ _ _ _ _)

pub row-requires-clause-room_for : goal.row-requires-clause-room_for
row-requires-clause-room_for c = product-room _ _ _ _ c.loop-u.invariant.1 _ c.requires.room_for c.loop-u-test.true

pub loop-u-preserved : goal.loop-u-preserved
loop-u-preserved c =
    let wide = c.loop-u.invariant.0 in
    (simp length-set wide, longer _ _ _ _ c.loop-u.invariant.1 (omega arith) c.row.ensures.grown c.row.ensures.row_stored)

pub returns : goal.returns
returns c =
    let end : c.loop-u.u ≡ c.args.rows = omega arith in
    record { grown = rw end at c.loop-u.invariant.1.written; stored = rw end at c.loop-u.invariant.1.stored }
