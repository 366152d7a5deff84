-- What probe writes from and searches once no question refuses: a netlist's bytes, and the bytes of one hold; and the diagram that the
-- netlist is made from.
use Rattle.std.specs.Prelude.{ℕ, ◌+◌, ◌/◌, ◌≤◌, ◌≡◌, true, List, length}
use Rattle.diagram.specs.declared.Diagram.{Diagram}
use Rattle.table.specs.Promises.{Accepted}
use Rattle.table.specs.Table.{diagram_in}
use Rattle.netlist.specs.Netlist.{gate_line}
use Rattle.wiring.specs.Questions.{are_gates}
use Rattle.drive.specs.Questions.{are_holds}
use Rattle.batches.specs.Inner.Batches.{SearchReady}

-- The diagram of an accepted table.
pub record AcceptedDiagram (d : Diagram) : Type 0 where
  pub table : List ℕ
  pub accepted : Accepted table
  pub is : d ≡ diagram_in table

-- Line values are worked out: gates whose sources are below their own lines, one hold, and room for every line.
pub record RunReady (n : ℕ) (gates hold : List ℕ) (room : ℕ) : Type 0 where
  pub few : n ≤ 12
  pub many : length gates / 5 ≤ 10560
  pub wired : are_gates (gate_line n) gates ≡ true
  pub one : length hold ≡ 3
  pub held : are_holds (gate_line n) (gate_line n + length gates / 5) hold ≡ true
  pub fits : gate_line n + length gates / 5 ≤ room

-- A file and line values are written: room for both.
pub record WriteReady (n : ℕ) (gates pairs hold : List ℕ) (room : ℕ) : Type 0 where
  pub lines : RunReady n gates hold (gate_line n + length gates / 5)
  pub bytes : (length gates ≤ 52800) × (length pairs ≤ 32)
  pub fits : 10 + length gates + length pairs + (gate_line n + length gates / 5) ≤ room

-- The inputs are searched, and a file and line values written.
pub record ProbeReady (n : ℕ) (gates pairs hold : List ℕ) (room : ℕ) : Type 0 where
  pub writable : WriteReady n gates pairs hold room
  pub searchable : SearchReady n gates pairs
