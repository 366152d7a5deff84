-- The board of a diagram: its netlist, and the netlist's depth.
use Rattle.std.specs.Prelude.{ℕ, suc, max, List, [], ◌∷◌, map, replicate}
use Rattle.diagram.specs.declared.Diagram.{Diagram}
use Rattle.diagram.specs.Diagram.{root}
use Rattle.table.specs.Table.{diagram_in}
use Rattle.netlist.specs.declared.Gate.{Gate}
use Rattle.netlist.specs.declared.Pair.{Pair}
use Rattle.netlist.specs.Netlist.{Netlist, gate_line, net_with}
use Rattle.fields.specs.Bounded.{listed}
use Rattle.simulation.specs.Run.{Rule, gate, work_out}
use Rattle.rules.specs.declared.Entry.{Entry}
use Rattle.rules.specs.declared.Entry.TheVariants.{Never, Always, Line}
use Rattle.rules.specs.Blocks.{Matrix, entry_at, cut, block}

-- Never is line 0 and always is line 1.
abbrev pub line_of : Entry → ℕ
line_of Never = 0
line_of Always = 1
line_of (Line x) = x

-- The gates and the matrix of the whole block.
unfoldable pub whole_block : Diagram → List Gate × Matrix
whole_block d = block d (cut d.contacts) 0 (gate_line d.contacts)

-- An output's true line is its node's entry in column 1 of the whole block, its false line that in column 0.
abbrev pub pair_of : Diagram → Matrix → ℕ → Pair
pair_of d m j = record { on = line_of (entry_at m (root d j) 1); off = line_of (entry_at m (root d j) 0) }

unfoldable pub board_of : Diagram → Netlist
board_of d = net_with d.contacts (whole_block d).0 (listed (pair_of d (whole_block d).1) d.outputs 0) []

-- A rail or constant has depth 0, a gate one more than its deeper source.
abbrev pub depth_rule : Rule ℕ
depth_rule = record { op = λ line kind a b. suc (max a b); shows = λ x v. v; none = 0 }

unfoldable pub depths_of : Netlist → List ℕ
depths_of net = work_out depth_rule (map gate net.gates) (replicate (gate_line net.contacts) 0)

abbrev pub largest : List ℕ → ℕ
largest [] = 0
largest (x ∷ xs) = max x (largest xs)

-- The netlist's depth is its largest.
unfoldable pub depth_of : Netlist → ℕ
depth_of net = largest (depths_of net)

-- The board of a table: the netlist of its diagram.
abbrev pub table_board : List ℕ → Netlist
table_board table = board_of (diagram_in table)
