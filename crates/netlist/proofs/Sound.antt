-- What a netlist has of which questions 11 and 12 say yes.
use Prim.Native.Nat.{ℕ, ◌+◌, ◌≤◌, ◌<◌}
use mathlib.Core.List.{List}
use lib.ListN.{length, get_or}
use Rattle.netlist.specs.declared.Gate.{Gate}
use Rattle.netlist.specs.declared.Pair.{Pair}
use Rattle.netlist.specs.Netlist.{Netlist, gate_line, line_count}

pub record GateOn (line : ℕ) (g : Gate) : Type 0 where
  pub kind : g.kind ≤ 1
  pub left : g.left < line
  pub right : g.right < line

pub record PairIn (lines : ℕ) (p : Pair) : Type 0 where
  pub on : p.on < lines
  pub off : p.off < lines

-- The numbers of contacts, gates, outputs and lamps.
pub record Bounds (net : Netlist) : Type 0 where
  pub least : 1 ≤ net.contacts
  pub most : net.contacts ≤ 12
  pub gates : length net.gates ≤ 10602
  pub some : 1 ≤ length net.pairs
  pub few : length net.pairs ≤ 8
  pub lamp : length net.lamp ≤ 1

-- Every gate's kind is 0 or 1, and its sources are below its own line.
abbrev pub Wired : Netlist → Type 0
Wired net = (g : ℕ) (d : Gate) → g < length net.gates → GateOn (gate_line net.contacts + g) (get_or net.gates g d)

-- Every output's lines, and the lamp's, are in the netlist.
abbrev pub PairsIn : ℕ → List Pair → Type 0
PairsIn lines pairs = (j : ℕ) (d : Pair) → j < length pairs → PairIn lines (get_or pairs j d)

abbrev pub PairsWired : Netlist → Type 0
PairsWired net = PairsIn (line_count net) net.pairs

abbrev pub LampWired : Netlist → Type 0
LampWired net = PairsIn (line_count net) net.lamp
