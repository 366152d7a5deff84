-- Demand 3 of boards and stuck lines, on the definitions that the services' contracts cite.
use Rattle.std.specs.Prelude.{ℕ, ◌+◌, ◌*◌, ◌-◌, ◌^◌, ◌≤◌, ◌<◌, ◌≡◌, true, List, ◌⊎◌, length, get_or}
use Rattle.diagram.specs.Diagram.{Input, value_at}
use Rattle.netlist.specs.Netlist.{Netlist, hold_at, level_of, holds_of, gate_line, line_count, is_read, file_of}
use Rattle.simulation.specs.Run.{values_of, shown_by}
use Rattle.drive.specs.Questions.{are_ordered}
use Rattle.simulation.specs.Service.{run_of}
use Rattle.files.specs.Room.{over}
use Rattle.rules.specs.Code.{code_rails}
use Rattle.table.specs.Promises.{Accepted}
use Rattle.table.specs.Table.{diagram_in}
use Rattle.rules.specs.Board.{table_board}
use Rattle.faults.specs.Betrayal.{stuck_at}

-- Output j's pair among line values: the true line's value a and the false line's value b.
abbrev pub Shows : Netlist → List ℕ → ℕ → ℕ → ℕ → Type 0
Shows net values j a b = (get_or (shown_by net values) (2 * j) 0 ≡ a) × (get_or (shown_by net values) (2 * j + 1) 0 ≡ b)

-- The right code of output j at a code input: 10 if its value is 1, else 01.
abbrev pub ShowsRight : List ℕ → Input → List ℕ → ℕ → Type 0
ShowsRight table x values j =
    let value = value_at (diagram_in table) x j in
    Shows (table_board table) values j value (1 - value)

-- A hold list under question 14, of lines and pins, all of which are held at b.
abbrev pub OneWay : Netlist → List ℕ → ℕ → Type 0
OneWay net holds b =
    (are_ordered (gate_line net.contacts) (line_count net) holds ≡ true)
    × ((i : ℕ) → i < length (holds_of holds) → level_of (hold_at holds i) ≡ b)

-- Whichever lines and pins of a board built from an accepted table are held, all at 0 or all at 1, and whatever the code input: each
-- pair shows the right code, or 00 for holds at 0, or 11 for holds at 1.
abbrev pub NoWrongCode : Type 0
NoWrongCode =
    (table : List ℕ) → Accepted table → (b : ℕ) → b ≤ 1 → (holds : List ℕ) → OneWay (table_board table) holds b →
    (x : Input) (j : ℕ) → j < (diagram_in table).outputs →
    let net = table_board table in
    let values = values_of net (code_rails net.contacts x) (holds_of holds) in
    ShowsRight table x values j ⊎ Shows net values j b b

-- Just one line held that some gate or output reads, whichever it is and at whichever value, does not stay unseen: at some code input
-- a pair shows 00 for a line held at 0, 11 for one held at 1.
abbrev pub NoUnseenLine : Type 0
NoUnseenLine =
    (table : List ℕ) → Accepted table → (line b : ℕ) → 2 ≤ line → is_read (table_board table) line ≡ true → b ≤ 1 →
    (a : ℕ) × (a < 2 ^ (diagram_in table).contacts) × (j : ℕ) × (j < (diagram_in table).outputs)
    × Shows (table_board table) (stuck_at (table_board table) (record { line = line; value = b }) a) j b b

-- Such values, and each output's pair of them and the lamp's, are what a run of a netlist's file writes, if it is not refused.
abbrev pub RunWrites : Type 0
RunWrites =
    (net : Netlist) (rails holds lines pairs : List ℕ) →
    let values = values_of net rails (holds_of holds) in
    let ran = run_of (file_of net) rails holds lines pairs in
    ran.refusal ≡ 0 → (ran.lines ≡ over values lines) × (ran.pairs ≡ over (shown_by net values) pairs)
