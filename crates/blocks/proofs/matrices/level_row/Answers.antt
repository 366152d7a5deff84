-- `matrices::level_row` meets its contract. The loop's invariant: the columns passed are stored.
use native.Mathlib.Omega.{arith}
use mathlib.Core.Path.{◌≡◌, refl, sym}
use lib.ListN.{length-set}
use Rattle.products.proofs.Rows.{row-none, row-more}
use Rattle.blocks.proofs.matrices.level_row.Goals as goal

pub loop-v-init : goal.loop-v-init
loop-v-init c = (omega arith, row-none _ _)

pub loop-v-preserved : goal.loop-v-preserved
loop-v-preserved c =
    let wide = c.loop-v.invariant.0 in
    (simp length-set wide, row-more c.loop-v.invariant.1 (omega arith) (λ i h. refl) (sym c.rail.ensures))

pub returns : goal.returns
returns c =
    let end : c.loop-v.v ≡ c.args.columns = omega arith in
    rw end at c.loop-v.invariant.1
