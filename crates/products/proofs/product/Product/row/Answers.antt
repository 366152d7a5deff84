-- `Product::row` meets its contract. The loop's invariant: the columns passed are made and stored.
use native.Mathlib.Omega.{arith}
use mathlib.Core.Path.{◌≡◌}
use lib.ListN.{length-set}
use Rattle.products.proofs.Rows.{row-begun, row-longer, row-room}
use Rattle.products.proofs.product.Product.row.Goals as goal

pub loop-v-init : goal.loop-v-init
loop-v-init c = (omega arith, row-begun _ _ _ _ _)

pub entry-requires-clause-room_for : goal.entry-requires-clause-room_for
entry-requires-clause-room_for c = row-room _ _ _ _ c.loop-v.invariant.1 _ c.requires.room_for c.loop-v-test.true

pub loop-v-preserved : goal.loop-v-preserved
loop-v-preserved c =
    let wide = c.loop-v.invariant.0 in
    (simp length-set wide, row-longer _ _ _ _ c.loop-v.invariant.1 (omega arith) c.entry.ensures)

pub returns : goal.returns
returns c =
    let end : c.loop-v.v ≡ c.args.columns = omega arith in
    record { grown = rw end at c.loop-v.invariant.1.written; row_stored = rw end at c.loop-v.invariant.1.stored }
