-- Spare contacts: which lines of a board no gate or output reads.
use Rattle.std.specs.Prelude.{ℕ, ◌+◌, ◌*◌, ◌≤◌, ◌<◌, ◌≡◌, true, false, List}
use Rattle.diagram.specs.Diagram.{input_of, Ignores}
use Rattle.netlist.specs.Netlist.{gate_line, line_count, is_read}
use Rattle.table.specs.Promises.{Accepted}
use Rattle.table.specs.Table.{diagram_in}
use Rattle.rules.specs.Board.{table_board}
use Rattle.faults.specs.Betrayal.{stuck_at}
use Rattle.faults.specs.Promises.{ShowsRight}

-- Every gate of a board is read.
abbrev pub GatesRead : Type 0
GatesRead =
    (table : List ℕ) → Accepted table → (line : ℕ) → gate_line (diagram_in table).contacts ≤ line → line < line_count (table_board table) →
    is_read (table_board table) line ≡ true

-- A contact is spare exactly if no output's value depends on it: then neither of its rails is read, and else both are.
abbrev pub SpareContacts : Type 0
SpareContacts =
    (table : List ℕ) → Accepted table → (i : ℕ) → i < (diagram_in table).contacts →
    let read = is_read (table_board table) in
    (read (2 + 2 * i) ≡ read (3 + 2 * i))
    × (read (2 + 2 * i) ≡ false → Ignores (diagram_in table) i)
    × (Ignores (diagram_in table) i → read (2 + 2 * i) ≡ false)

-- A line that nothing reads stays unseen: held at any value, it leaves every pair right at every code input.
abbrev pub UnreadUnseen : Type 0
UnreadUnseen =
    (table : List ℕ) → Accepted table → (line b : ℕ) → is_read (table_board table) line ≡ false →
    (a j : ℕ) → j < (diagram_in table).outputs →
    ShowsRight table (input_of a) (stuck_at (table_board table) (record { line = line; value = b }) a) j
