-- `board::put_pairs` meets its contract. The loop's invariant: the pairs of the outputs passed are written.
use native.Mathlib.Omega.{arith}
use Prim.Native.Nat.{◌<◌}
use mathlib.Core.Path.{◌≡◌}
use Rattle.rules.specs.Board.{pair_of}
use Rattle.synthesis.proofs.WrittenPairs.{pairs-none, pairs-more, roots-long, root-taken, root-low}
use Rattle.synthesis.proofs.board.put_pairs.Goals as goal

pub loop-j-init : goal.loop-j-init
loop-j-init c = pairs-none (pair_of c.args.d.now c.args.cells.now)

pub bounds-cells-node : goal.bounds-cells-node
bounds-cells-node c =
    let d = c.args.d.now in
    let within : c.loop-j.j < d.outputs = omega (arith, c.loop-j-test.true, roots-long d c.requires.0 (omega arith)) in
    root-low d c.loop-j.j within c.requires.0 c.requires.1

pub bounds-cells-node-in-loop-j : goal.bounds-cells-node-in-loop-j
bounds-cells-node-in-loop-j c =
    let d = c.args.d.now in
    let within : c.loop-j.j < d.outputs = omega (arith, c.loop-j-test.true, roots-long d c.requires.0 (omega arith)) in
    root-low d c.loop-j.j within c.requires.0 c.requires.1

pub loop-j-preserved : goal.loop-j-preserved
loop-j-preserved c =
    let d = c.args.d.now in
    let node = root-taken d c.loop-j.j (omega (arith, c.loop-j-test.true, roots-long d c.requires.0 (omega arith))) in
    let on = rw c.from.ensures at c.put_number.ensures in
    let off = rw c.from-in-loop-j.ensures at c.put_number-in-loop-j.ensures in
    pairs-more (pair_of d c.args.cells.now) c.loop-j.j _ _ _ _ c.loop-j.invariant (rw node at on) (rw node at off)

pub returns : goal.returns
returns c =
    let end : c.loop-j.j ≡ c.args.d.now.outputs = omega (arith, roots-long c.args.d.now c.requires.0 (omega arith)) in
    rw end at c.loop-j.invariant
