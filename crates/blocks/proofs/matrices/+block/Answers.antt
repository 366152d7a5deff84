-- `matrices::block` meets its contract: a single level, or the product of two blocks.
use Prim.Native.Nat.{◌+◌, ◌/◌}
use native.Mathlib.Omega.{arith}
use Rattle.rules.proofs.Bounds.{sized-narrow}
use Rattle.blocks.proofs.WrittenBlocks.{built-one, built-two, left-room, right-room, last-room}
use Rattle.blocks.proofs.matrices.+block.Goals as goal

pub returns : goal.returns
returns t c =
    let left = c.block.ensures in
    let right = c.block-2.ensures in
    let built = built-two c.args.d.now c.args.l c.args.count (omega arith) (record { grown = left.grown; stored = left.stored })
    (record { grown = right.grown; stored = right.stored })
    (rw (c.width-rows.ensures, c.width.ensures, c.width-columns.ensures) at c.multiply.ensures.grown)
    (rw (c.width-rows.ensures, c.width.ensures, c.width-columns.ensures) at c.multiply.ensures.stored) in
    record { grown = built.grown; stored = built.stored }

pub returns-then-count-le1 : goal.returns-then-count-le1
returns-then-count-le1 t c =
    let built = built-one c.args.d.now c.args.l _ (omega arith) c.level.ensures in
    record { grown = built.grown; stored = built.stored }

pub block-requires : goal.block-requires
block-requires t c =
    let room = left-room c.args.d.now c.args.l c.args.count (omega arith) c.requires.room_for in
    (omega arith, ((c.requires.sized.0, omega arith, omega arith), room))

pub block-requires-2 : goal.block-requires-2
block-requires-2 t c =
    let left = c.block.ensures in
    let room = right-room c.args.d.now c.args.l c.args.count (omega arith) c.requires.room_for
    (record { grown = left.grown; stored = left.stored }) in
    (omega arith, ((c.requires.sized.0, omega arith, omega arith), room))

pub multiply-requires : goal.multiply-requires
multiply-requires t c =
    let d = c.args.d.now in
    let l = c.args.l in
    let sized = c.requires.sized.0 in
    let rows = sized-narrow d sized l (omega arith) in
    let middle = sized-narrow d sized (l + (c.args.count + 1) / 2) (omega arith) in
    let columns = sized-narrow d sized (l + c.args.count) c.requires.sized.2 in
    let left = c.block.ensures in
    let right = c.block-2.ensures in
    let room = last-room d l c.args.count (omega arith) c.requires.room_for (record { grown = left.grown; stored = left.stored })
    (record { grown = right.grown; stored = right.stored }) in
    record { rows_bound = omega arith; room_for = rw (c.width-rows.ensures, c.width.ensures, c.width-columns.ensures) room }
