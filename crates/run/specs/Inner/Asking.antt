-- The questions of a step about what it is handed besides a netlist.
use Rattle.std.specs.Prelude.{ℕ, ◌+◌, ◌*◌, ◌/◌, List, [], ◌∷◌, length}
use Rattle.fields.specs.Refusals.{first_no}
use Rattle.files.specs.Room.{room_of, room_number}
use Rattle.netlist.specs.Netlist.{gate_line}
use Rattle.wiring.specs.declared.parts.Parts.{Parts}
use Rattle.drive.specs.Questions.{rails_of, rails_number, order_of, holds_number, place_of, place_number}

-- Questions 13, 14, 21 and 9 of a netlist of n contacts and so many lines and pairs.
abbrev pub asking_of : ℕ → ℕ → ℕ → List ℕ → List ℕ → ℕ → ℕ → ℕ → ℕ
asking_of n count shown rails holds place lines pairs =
    first_no
    (rails_number (rails_of n rails)
    ∷ holds_number (order_of (gate_line n) count holds)
    ∷ place_number (place_of count place)
    ∷ room_number (room_of count lines)
    ∷ room_number (room_of (2 * shown) pairs)
    ∷ [])

-- The same of a netlist by its parts.
abbrev pub asking_by : Parts → List ℕ → List ℕ → ℕ → ℕ → ℕ → ℕ
asking_by p =
    asking_of p.contacts (gate_line p.contacts + length p.gates.now / 5) (length p.outputs.now / 4 + length p.lamp.now / 4)
