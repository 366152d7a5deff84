-- The services check, build and build with lamp: what each returns, and the bytes that a build leaves.
use Rattle.std.specs.Prelude.{ℕ, zero, suc, Result, Ok, Err, List, length}
use Rattle.table.specs.Table.{table_refusal}
use Rattle.netlist.specs.Netlist.{Netlist, file_of}
use Rattle.files.specs.declared.refusal.Refusal.{Refusal}
use Rattle.files.specs.Refusals.{number_of}
use Rattle.files.specs.Room.{Writing, writing_of}
use Rattle.synthesis.specs.declared.service.Counts.{Counts}
use Rattle.synthesis.specs.declared.service.Checked.{Checked}
use Rattle.rules.specs.Board.{table_board, depth_of}
use Rattle.rules.specs.Lamp.{lamp_board}

-- The counts of a netlist.
abbrev pub counts_of : Netlist → Counts
counts_of net = record { contacts = net.contacts; outputs = length net.pairs; gates = length net.gates; depth = depth_of net }

-- A result of check as it goes to C: with a refusal the counts are zero.
abbrev pub checked : Result Counts Refusal → Checked
checked (Ok c) = record { refusal = 0; contacts = c.contacts; outputs = c.outputs; gates = c.gates; depth = c.depth }
checked (Err r) = record { refusal = number_of r; contacts = 0; outputs = 0; gates = 0; depth = 0 }

-- Check returns contacts, outputs, gates and depth, or the table's refusal with every other result zero.
abbrev pub checked_or : ℕ → Netlist → Checked
checked_or zero net =
    record {
      refusal = 0;
      contacts = net.contacts;
      outputs = length net.pairs;
      gates = length net.gates;
      depth = depth_of net;
    }
checked_or (suc k) net = record { refusal = suc k; contacts = 0; outputs = 0; gates = 0; depth = 0 }

unfoldable pub checked_of : List ℕ → Checked
checked_of table = checked_or (table_refusal table) (table_board table)

-- Build writes the file of the table's netlist, after the table's questions.
unfoldable pub building_of : List ℕ → List ℕ → Writing
building_of table buffer = writing_of (table_refusal table) (file_of (table_board table)) buffer

-- Build with lamp writes the file of the table's netlist with its lamp.
unfoldable pub lamp_building_of : List ℕ → List ℕ → Writing
lamp_building_of table buffer = writing_of (table_refusal table) (file_of (lamp_board table)) buffer
