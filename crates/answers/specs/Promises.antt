-- Demand 3 of what probe returns and writes.
use Rattle.std.specs.Prelude.{ℕ, ◌^◌, ◌<◌, ◌≡◌, false, List, ◌++◌, ◌⊎◌, length}
use Rattle.fields.specs.Fields.{Bytes}
use Rattle.diagram.specs.Diagram.{input_of}
use Rattle.table.specs.Table.{diagram_in}
use Rattle.netlist.specs.declared.Hold.{Hold}
use Rattle.netlist.specs.Netlist.{site_of, level_of, hold_at, holds_of, file_of}
use Rattle.simulation.specs.Run.{values_of}
use Rattle.files.specs.Room.{over}
use Rattle.rules.specs.Code.{code_rails}
use Rattle.rules.specs.Board.{table_board}
use Rattle.faults.specs.Betrayal.{stuck_at, betrays}
use Rattle.faults.specs.Promises.{Shows, ShowsRight}
use Rattle.stuck.specs.Service.{probe_refusal}
use Rattle.answers.specs.declared.Probed.{Probed}
use Rattle.answers.specs.Answers.{probe_of}

-- Output j's pair shows its right code at input a with a line or pin held.
abbrev pub RightAt : List ℕ → Hold → ℕ → ℕ → Type 0
RightAt table h a j = ShowsRight table (input_of a) (stuck_at (table_board table) h a) j

-- The smallest input that betrays a held line or pin, the lowest output that shows it there, and the way it shows, 0 for both low exactly
-- if it is held at 0. At every lower input all pairs show their right code, and at that input all pairs of lower outputs do.
abbrev pub IsSmallest : List ℕ → Hold → Probed → Type 0
IsSmallest table h found =
    let net = table_board table in
    (found.input < 2 ^ (diagram_in table).contacts)
    × (found.output < (diagram_in table).outputs)
    × Shows net (stuck_at net h found.input) found.output (level_of h) (level_of h)
    × ((a j : ℕ) → a < found.input → j < (diagram_in table).outputs → RightAt table h a j)
    × ((j : ℕ) → j < found.output → RightAt table h found.input j)
    × (found.way ≡ level_of h)

-- Hidden, which is way 2: input and output are 0, and at every code input all pairs show their right code.
abbrev pub IsHidden : List ℕ → Hold → Probed → Type 0
IsHidden table h found =
    (found.way ≡ 2) × (found.input ≡ 0) × (found.output ≡ 0)
    × ((a j : ℕ) → a < 2 ^ (diagram_in table).contacts → j < (diagram_in table).outputs → RightAt table h a j)

-- What a probe returns to C, if it is not refused: the smallest input that betrays the held line or pin, or hidden.
abbrev pub Smallest : Type 0
Smallest =
    (table hold buffer : List ℕ) → Bytes table → probe_refusal table hold (length buffer) ≡ 0 →
    let found = (probe_of table hold buffer).answer in
    IsSmallest table (hold_at hold 0) found ⊎ IsHidden table (hold_at hold 0) found

-- It returns hidden exactly if no code input betrays the held line or pin.
abbrev pub HiddenIfUnseen : Type 0
HiddenIfUnseen =
    (table hold buffer : List ℕ) → probe_refusal table hold (length buffer) ≡ 0 →
    let hidden : Type 0 = (probe_of table hold buffer).answer.way ≡ 2 in
    let unseen : Type 0 = (a : ℕ) → a < 2 ^ (diagram_in table).contacts → betrays (table_board table) (hold_at hold 0) a ≡ false in
    (hidden → unseen) × (unseen → hidden)

-- A line is never hidden.
abbrev pub LinesSeen : Type 0
LinesSeen =
    (table hold buffer : List ℕ) → Bytes table → probe_refusal table hold (length buffer) ≡ 0 → site_of (hold_at hold 0) ≡ 0 →
    (probe_of table hold buffer).answer.way ≡ 2 → ⊥

-- 15 is given for a line only, never for a pin.
abbrev pub FifteenForLines : Type 0
FifteenForLines =
    (table hold : List ℕ) (lent : ℕ) → Bytes table → probe_refusal table hold lent ≡ 15 → site_of (hold_at hold 0) ≡ 0

-- What it leaves in the buffer: the file that build writes, then every line's value at the input that it returns, which is 0 if hidden,
-- with that line or pin held.
abbrev pub ProbeWrites : Type 0
ProbeWrites =
    (table hold buffer : List ℕ) → probe_refusal table hold (length buffer) ≡ 0 →
    let net = table_board table in
    let probing = probe_of table hold buffer in
    let values = values_of net (code_rails net.contacts (input_of probing.answer.input)) (holds_of hold) in
    probing.buffer ≡ over (file_of net ++ values) buffer
