-- The lamp: all pairs of a netlist joined into one, in the field a two-rail checker.
use Rattle.std.specs.Prelude.{ℕ, List, [], ◌∷◌, ◌++◌, length}
use Rattle.netlist.specs.declared.Gate.{Gate}
use Rattle.netlist.specs.declared.Pair.{Pair}
use Rattle.netlist.specs.Netlist.{Netlist, line_count, net_with}
use Rattle.rules.specs.Make.{Make, return, ◌>>=◌, gate}
use Rattle.rules.specs.Blocks.{Cut, cut, tree}
use Rattle.rules.specs.Board.{table_board}

-- Two pairs a, a' and b, b' join by AND a b, AND a' b', their OR as the true line,
-- AND a b', AND a' b, their OR as the false line.
unfoldable pub join : Pair → Pair → Make Pair
join a b = do
  both ← gate 0 a.on b.on
  neither ← gate 0 a.off b.off
  on ← gate 1 both neither
  first ← gate 0 a.on b.off
  second ← gate 0 a.off b.on
  off ← gate 1 first second
  return (record { on = on; off = off })

-- What stands for a pair where a list has none.
abbrev pub no_pair : Pair
no_pair = record { on = 0; off = 0 }

-- Pairs are halved as ORs are, left joins first, and one pair is itself.
abbrev pub join_tree : Cut → List Pair → Make Pair
join_tree = tree no_pair join

-- The gates that join all pairs of a netlist, from its first free line on, and the pair that they come to.
unfoldable pub lamp_of : Netlist → List Gate × Pair
lamp_of net = join_tree (cut (length net.pairs)) net.pairs (line_count net)

-- A netlist with its lamp: these gates follow the others, and constants may be sources.
unfoldable pub with_lamp : Netlist → Netlist
with_lamp net = net_with net.contacts (net.gates ++ (lamp_of net).0) net.pairs ((lamp_of net).1 ∷ [])

-- The board of a table, with its lamp.
abbrev pub lamp_board : List ℕ → Netlist
lamp_board table = with_lamp (table_board table)
