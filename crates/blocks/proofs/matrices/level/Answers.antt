-- `matrices::level` meets its contract. The loop's invariant: the rows passed are stored.
use native.Mathlib.Omega.{arith}
use Prim.Native.Nat.{◌+◌, ◌<◌}
use native.Mathlib.Nat.{le_of_lt}
use native.Mathlib.Numerals.{add-one, add-one-le}
use mathlib.Core.Path.{◌≡◌, refl, ap, ◌∙◌}
use lib.ListN.{length-set}
use Rattle.diagram.specs.Diagram.{width}
use Rattle.diagram.proofs.Bytes.{long, zero-edge, one-edge}
use Rattle.rules.proofs.Bounds.{sized-narrow}
use Rattle.products.proofs.Rows.{rows-more}
use Rattle.blocks.proofs.matrices.level.Goals as goal

pub bounds-edges-u : goal.bounds-edges-u
bounds-edges-u c = omega (arith, c.width-u-end.ensures, long _ _ c.level-edges.ensures)

pub bounds-edges-u-in-loop-u : goal.bounds-edges-u-in-loop-u
bounds-edges-u-in-loop-u c = omega (arith, c.width-u-end.ensures, long _ _ c.level-edges.ensures)

pub level_row-requires : goal.level_row-requires
level_row-requires c =
    let d = c.args.d.now in
    let narrow = sized-narrow d c.requires.0 (c.args.l + 1) (add-one-le c.requires.1) in
    (omega (arith, c.requires.0.contacts), omega (arith, c.width-columns.ensures, narrow))

pub loop-u-preserved : goal.loop-u-preserved
loop-u-preserved c =
    let d = c.args.d.now in
    let l = c.args.l in
    let u = c.loop-u.u in
    let wide = c.loop-u.invariant.0 in
    let here : u < width d l = omega (arith, c.width-u-end.ensures) in
    let narrow = sized-narrow d c.requires.0 l (le_of_lt c.requires.1) in
    let row = rw (zero-edge d l u c.level-edges.ensures here, one-edge d l u c.level-edges.ensures here) at c.level_row.ensures in
    (simp length-set wide, rows-more c.loop-u.invariant.1 row (omega arith) (λ i v h. refl))

pub returns : goal.returns
returns c =
    let d = c.args.d.now in
    let rows : c.loop-u.u ≡ width d c.args.l = omega (arith, c.width-u-end.ensures) in
    let columns = c.width-columns.ensures ∙ ap (width d) (add-one c.args.l) in
    rw (rows, columns) at c.loop-u.invariant.1
