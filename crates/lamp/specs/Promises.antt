-- The lamp of a board built from an accepted table, on the definitions that the services' contracts cite. Where a board has m
-- outputs, pair m of what a run shows is the lamp.
use Rattle.std.specs.Prelude.{ℕ, ◌+◌, ◌*◌, ◌-◌, ◌^◌, ◌≤◌, ◌<◌, ◌≡◌, Bool, true, not, List, [], ◌⊎◌, eqb, length, get_or, take}
use Rattle.fields.specs.Bounded.{all}
use Rattle.fields.specs.Fields.{Bytes, without_notes}
use Rattle.diagram.specs.Diagram.{Input, value_at}
use Rattle.table.specs.Promises.{Accepted}
use Rattle.table.specs.Table.{diagram_in}
use Rattle.netlist.specs.Netlist.{holds_of, gate_line, line_count, is_read, file_of}
use Rattle.wiring.specs.Questions.{netlist_in, netlist_refusal}
use Rattle.drive.specs.declared.Rails.TheVariants.{Driven}
use Rattle.drive.specs.Questions.{rails_of, are_ordered}
use Rattle.simulation.specs.Run.{values_of, shown_by}
use Rattle.rules.specs.Board.{depth_of, table_board}
use Rattle.rules.specs.Code.{code_rails}
use Rattle.rules.specs.Formulas.{log2up, gates_most, depth_most}
use Rattle.rules.specs.Lamp.{lamp_board}
use Rattle.faults.specs.Betrayal.{stuck_at}
use Rattle.faults.specs.Promises.{Shows, OneWay}

-- Whether pair j of what a run shows is a code: 10 or 01.
abbrev pub code_at : List ℕ → ℕ → Bool
code_at shown j = not (eqb (get_or shown (2 * j) 0) (get_or shown (2 * j + 1) 0))

-- The right code of output j at a code input, on the board with its lamp.
abbrev pub LampShowsRight : List ℕ → Input → List ℕ → ℕ → Type 0
LampShowsRight table x values j =
    let value = value_at (diagram_in table) x j in
    Shows (lamp_board table) values j value (1 - value)

-- Contacts, outputs and the first gates are those of the board without the lamp.
abbrev pub PlainFirst : Type 0
PlainFirst =
    (table : List ℕ) →
    let plain = table_board table in
    let net = lamp_board table in
    (net.contacts ≡ plain.contacts) × (net.pairs ≡ plain.pairs) × (take (length plain.gates) net.gates ≡ plain.gates)

-- Six gates more for each join, never above 10,602 in all, and at most twice the logarithm of m more depth; so the formulas allow them.
abbrev pub LampFormulas : Type 0
LampFormulas =
    (table : List ℕ) → Accepted table →
    let net = lamp_board table in
    let m = (diagram_in table).outputs in
    (length net.gates ≡ length (table_board table).gates + 6 * (m - 1))
    × (length net.gates ≤ gates_most (diagram_in table) + 6 * (m - 1))
    × (length net.gates ≤ 10602)
    × (depth_of net ≤ depth_of (table_board table) + 2 * log2up m)
    × (depth_of net ≤ depth_most (diagram_in table) + 2 * log2up m)

-- The file of a board with its lamp passes questions 11 and 12 and holds that netlist.
abbrev pub LampFilesPass : Type 0
LampFilesPass =
    (table : List ℕ) → Accepted table →
    let file = file_of (lamp_board table) in
    Bytes file × (netlist_refusal file ≡ 0) × (netlist_in file ≡ lamp_board table)

-- Two accepted tables that differ without their notes have different netlists with the lamp, too.
abbrev pub DifferentLampNetlists : Type 0
DifferentLampNetlists =
    (a b : List ℕ) → Accepted a → Accepted b → file_of (lamp_board a) ≡ file_of (lamp_board b) →
    without_notes a ≡ without_notes b

-- At every code input each permit pair shows the table's value and its opposite.
abbrev pub LampRightCode : Type 0
LampRightCode =
    (table : List ℕ) → Accepted table → (x : Input) (j : ℕ) → j < (diagram_in table).outputs →
    let net = lamp_board table in
    LampShowsRight table x (values_of net (code_rails net.contacts x) []) j

-- At any rails, with none held of the lines that the lamp adds and of the pins of its gates: the lamp is a code exactly if every permit
-- pair is.
abbrev pub LampCode : Type 0
LampCode =
    (table : List ℕ) → Accepted table → (rails holds : List ℕ) → rails_of (diagram_in table).contacts rails ≡ Driven →
    are_ordered (gate_line (diagram_in table).contacts) (line_count (table_board table)) holds ≡ true →
    let net = lamp_board table in
    let m = (diagram_in table).outputs in
    let shown = shown_by net (values_of net rails (holds_of holds)) in
    code_at shown m ≡ all m (code_at shown)

-- Whichever lines and pins are held, all at 0 or all at 1, those that the lamp adds included, and whatever the code input: with none
-- held the lamp shows a code, and with them this code, or 00 for holds at 0, or 11 for holds at 1; each permit pair shows its right
-- code or these.
abbrev pub LampNoWrongCode : Type 0
LampNoWrongCode =
    (table : List ℕ) → Accepted table → (b : ℕ) → b ≤ 1 → (holds : List ℕ) → OneWay (lamp_board table) holds b → (x : Input) →
    let net = lamp_board table in
    let m = (diagram_in table).outputs in
    let free = shown_by net (values_of net (code_rails net.contacts x) []) in
    let values = values_of net (code_rails net.contacts x) (holds_of holds) in
    (code_at free m ≡ true)
    × (Shows net values m (get_or free (2 * m) 0) (get_or free (2 * m + 1) 0) ⊎ Shows net values m b b)
    × ((j : ℕ) → j < m → LampShowsRight table x values j ⊎ Shows net values j b b)

-- Just one line held, of the board without the lamp, that some gate or output there reads: at some code input a permit pair shows 00
-- for a line held at 0, 11 for one held at 1, and so does the lamp.
abbrev pub LampShowsStuckLine : Type 0
LampShowsStuckLine =
    (table : List ℕ) → Accepted table → (line b : ℕ) → 2 ≤ line → is_read (table_board table) line ≡ true → b ≤ 1 →
    (a : ℕ) × (a < 2 ^ (diagram_in table).contacts) × (j : ℕ) × (j < (diagram_in table).outputs)
    × (let values = stuck_at (lamp_board table) (record { line = line; value = b }) a in
    Shows (lamp_board table) values j b b × Shows (lamp_board table) values (diagram_in table).outputs b b)
