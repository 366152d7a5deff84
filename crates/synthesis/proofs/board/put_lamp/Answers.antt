-- `board::put_lamp` meets its contract: the tree of the board's pairs is its lamp.
use Rattle.rules.specs.Board.{board_of}
use Rattle.rules.specs.Lamp.{lamp_of}
use Rattle.synthesis.proofs.WrittenLamp.{some-pair, lamp-room, lamp-written, pair-written}
use Rattle.synthesis.proofs.board.put_lamp.Goals as goal

pub returns : goal.returns
returns c =
    let d = c.args.d.now in
    let s = c.requires.sized in
    let written = lamp-written d s.0 s.1 c.requires.made c.join_tree-pair.ensures in
    record {
      gates_after = written.0;
      lamp_after = pair-written (lamp_of (board_of d)).1 c.args.lamp.now written.1 c.put_number.ensures c.put_number-2.ensures;
    }

pub join_tree-pair-requires : goal.join_tree-pair-requires
join_tree-pair-requires c =
    let d = c.args.d.now in
    let s = c.requires.sized in
    (some-pair d s.0 s.1, lamp-room d s.0 s.1 c.requires.made)
