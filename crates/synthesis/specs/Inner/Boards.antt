-- Boards with a lamp and without.
use Rattle.diagram.specs.declared.Diagram.{Diagram}
use Rattle.netlist.specs.Netlist.{Netlist}
use Rattle.rules.specs.Board.{board_of}
use Rattle.rules.specs.Lamp.{with_lamp}
use Rattle.synthesis.specs.declared.service.Lamp.{Lamp}
use Rattle.synthesis.specs.declared.service.Lamp.TheVariants.{With, Without}

-- The board of a diagram, with its lamp or without.
abbrev pub board_with : Lamp → Diagram → Netlist
board_with With d = with_lamp (board_of d)
board_with Without d = board_of d
