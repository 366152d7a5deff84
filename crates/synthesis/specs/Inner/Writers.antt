-- The writer of a board's gates: as it begins, once the board is made, and once its lamp is.
use Rattle.std.specs.Prelude.{◌*◌, ◌≤◌, ◌≡◌, length, take}
use mathlib.Core.List.{List, flat_map}
use Rattle.std.proofs.lemmas.List.Edits.{sets}
use Rattle.diagram.specs.declared.Diagram.{Diagram}
use Rattle.netlist.specs.declared.Gate.{Gate}
use Rattle.netlist.specs.Netlist.{gate_line, gate_bytes}
use Rattle.rules.specs.Board.{board_of}
use Rattle.rules.specs.Lamp.{with_lamp}
use Rattle.gates.specs.declared.gate.Gates.{Gates}

-- These gates are made, and the buffer holds them from its start.
pub record HasMade (gates : List Gate) (g : Gates) : Type 0 where
  pub count : g.made ≡ length gates
  pub fits : 5 * g.made ≤ length g.out.now
  pub bytes : take (5 * g.made) g.out.now ≡ flat_map gate_bytes gates

-- No gate is made, and the buffer has room for those of the board.
pub record Begun (d : Diagram) (g : Gates) : Type 0 where
  pub first : g.first ≡ gate_line d.contacts
  pub none : g.made ≡ 0
  pub room : 5 * length (board_of d).gates ≤ length g.out.now

-- From such a writer on, these gates are made, and nothing else in the buffer changes.
pub record Makes (gates : List Gate) (before after : Gates) : Type 0 where
  pub same_buffer : after.out.ghost_name ≡ before.out.ghost_name
  pub same_first : after.first ≡ before.first
  pub same_length : length after.out.now ≡ length before.out.now
  pub out : after.out.now ≡ sets before.out.now 0 (flat_map gate_bytes gates)
  pub made : HasMade gates after

-- The board's gates are made, and the buffer has room for those of its lamp, too.
pub record BoardMade (d : Diagram) (g : Gates) : Type 0 where
  pub first : g.first ≡ gate_line d.contacts
  pub made : HasMade (board_of d).gates g
  pub room : 5 * length (with_lamp (board_of d)).gates ≤ length g.out.now
