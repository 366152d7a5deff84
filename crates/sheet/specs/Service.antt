-- The service sheet: what it returns and writes.
use Rattle.std.specs.Prelude.{ℕ, List}
use Rattle.files.specs.Room.{Writing, writing_of}
use Rattle.wiring.specs.Questions.{netlist_in, netlist_refusal}
use Rattle.sheet.specs.Sheet.{sheet_of}

-- It writes the netlist's sheet, after questions 11 and 12.
unfoldable pub sheeting_of : List ℕ → List ℕ → Writing
sheeting_of file buffer = writing_of (netlist_refusal file) (sheet_of (netlist_in file)) buffer
