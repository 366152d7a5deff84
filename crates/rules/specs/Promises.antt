-- Demand 2, on the definitions that the services' contracts cite.
use Rattle.std.specs.Prelude.{ℕ, ◌+◌, ◌*◌, ◌-◌, ◌≤◌, ◌<◌, ◌≡◌, List, [], length, get_or}
use Rattle.fields.specs.Fields.{Bytes, without_notes}
use Rattle.diagram.specs.Diagram.{Input, value_at}
use Rattle.table.specs.Promises.{Accepted}
use Rattle.table.specs.Table.{diagram_in}
use Rattle.netlist.specs.Netlist.{file_of}
use Rattle.simulation.specs.Run.{values_of, shown_by}
use Rattle.wiring.specs.Questions.{netlist_in, netlist_refusal}
use Rattle.rules.specs.Board.{depth_of, table_board}
use Rattle.rules.specs.Code.{code_rails}
use Rattle.rules.specs.Formulas.{gates_most, depth_most}

-- The netlist of an accepted table is within the formulas for gates and depth, and never above 10,560 gates.
abbrev pub WithinFormulas : Type 0
WithinFormulas =
    (table : List ℕ) → Accepted table →
    (length (table_board table).gates ≤ gates_most (diagram_in table))
    × (length (table_board table).gates ≤ 10560)
    × (depth_of (table_board table) ≤ depth_most (diagram_in table))

-- The file that build writes passes questions 11 and 12 and holds the table's netlist.
abbrev pub BuiltFilesPass : Type 0
BuiltFilesPass =
    (table : List ℕ) → Accepted table →
    let file = file_of (table_board table) in
    Bytes file × (netlist_refusal file ≡ 0) × (netlist_in file ≡ table_board table)

-- At every code input each permit pair shows the table's value and its opposite.
abbrev pub RightCode : Type 0
RightCode =
    (table : List ℕ) → Accepted table → (x : Input) (j : ℕ) → j < (diagram_in table).outputs →
    let net = table_board table in
    let pairs = shown_by net (values_of net (code_rails net.contacts x) []) in
    let value = value_at (diagram_in table) x j in
    (get_or pairs (2 * j) 0 ≡ value) × (get_or pairs (2 * j + 1) 0 ≡ 1 - value)

-- Two accepted tables that differ without their notes have different netlists.
abbrev pub DifferentNetlists : Type 0
DifferentNetlists =
    (a b : List ℕ) → Accepted a → Accepted b → file_of (table_board a) ≡ file_of (table_board b) →
    without_notes a ≡ without_notes b
