-- `board::put_board` meets its contract: the whole block's gates, and the pairs that its matrix gives.
use native.Mathlib.Omega.{arith}
use Rattle.synthesis.proofs.WrittenBoard.{board-room, board-gates, board-pairs}
use Rattle.synthesis.proofs.board.put_board.Goals as goal

pub block-requires : goal.block-requires
block-requires c =
    let b = c.requires.begun in
    let sized = c.requires.sized.0 in
    record { sized = (sized, omega (arith, sized.contacts), omega arith); room_for = board-room c.args.d.now c.args.gates.now b.first b.none sized b.room }

pub returns : goal.returns
returns c =
    let d = c.args.d.now in
    let b = c.requires.begun in
    let pairs = board-pairs d c.args.gates.now b.first b.none c.requires.sized.1 _ c.block.ensures.stored in
    record {
      gates_after = board-gates d c.args.gates.now b.first b.none c.requires.sized.0 b.room c.block.ensures.grown;
      pairs_after = rw pairs at c.put_pairs.ensures;
    }
