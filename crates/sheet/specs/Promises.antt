-- What a sheet promises.
use Rattle.std.specs.Prelude.{ℕ, ◌+◌, ◌*◌, ◌/◌, ◌≤◌, ◌≡◌, List, length}
use Rattle.fields.specs.Fields.{Bytes, without_notes}
use Rattle.wiring.specs.Questions.{netlist_in, netlist_refusal}
use Rattle.sheet.specs.Sheet.{sheet_of}

-- The sheet determines the netlist once the count of contacts is given: two netlist files of bytes that pass questions 11 and 12,
-- with the same contacts and the same sheet, are the same bytes but for their notes.
abbrev pub SheetDetermines : Type 0
SheetDetermines =
    (a b : List ℕ) → Bytes a → Bytes b → netlist_refusal a ≡ 0 → netlist_refusal b ≡ 0 →
    (netlist_in a).contacts ≡ (netlist_in b).contacts → sheet_of (netlist_in a) ≡ sheet_of (netlist_in b) →
    without_notes a ≡ without_notes b

-- A sheet has 22 bytes for each row and for the heading of every fifty; 238,128 are enough for each.
abbrev pub SheetLength : Type 0
SheetLength =
    (file : List ℕ) → netlist_refusal file ≡ 0 →
    let net = netlist_in file in
    let rows = length net.gates + length net.pairs + length net.lamp in
    (length (sheet_of net) ≡ 22 * (rows + (rows + 49) / 50)) × (length (sheet_of net) ≤ 238128)
