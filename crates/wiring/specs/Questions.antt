-- Questions 11 and 12, about a netlist file.
use Rattle.std.specs.Prelude.{ℕ, ◌+◌, ◌/◌, Bool, ◌&&◌, ◌||◌, cond, Option, Some, None, List, [], ◌∷◌, leb, ltb, eqb, length}
use Rattle.fields.specs.Bounded.{all}
use Rattle.fields.specs.Fields.{Item, Fields, fields_of, item_in, value_in}
use Rattle.fields.specs.Refusals.{framing_number, first_no}
use Rattle.files.specs.Header.{contacts_in, contacts_number, contacts_of, has_parts}
use Rattle.netlist.specs.declared.Gate.{Gate}
use Rattle.netlist.specs.declared.Pair.{Pair}
use Rattle.netlist.specs.Netlist.{Netlist, gate_at, pair_at, gates_of, pairs_of, gate_line, net_with}
use Rattle.wiring.specs.declared.sound.Wiring.{Wiring}
use Rattle.wiring.specs.declared.sound.Wiring.TheVariants.{Sound, Unsound}

-- After three fields no more, or tag 6 of one whole pair and then no more.
abbrev pub ends_in_lamp : List Item → Bool
ends_in_lamp is = leb (length is) 3 || (has_parts 6 4 1 1 (item_in is 3) && leb (length is) 4)

-- 11. Does the file have whole fields of tags 1, 4, 5 in that order, then at most tag 6 and no more, tag 1 as in question 2, tag 4 of
-- 0 to 10,602 whole gates, tag 5 of 1 to 8 whole outputs, tag 6 of one whole pair? It then has so many contacts. No: 11.
unfoldable pub form_of : Fields → Option ℕ
form_of fs =
    cond
    (eqb (framing_number fs.framing) 0 && eqb (contacts_number (contacts_in fs.items)) 0
    && has_parts 4 5 0 10602 (item_in fs.items 1) && has_parts 5 4 1 8 (item_in fs.items 2)
    && ends_in_lamp fs.items)
    (Some (contacts_of fs.items))
    None

abbrev pub form_number : Option ℕ → ℕ
form_number (Some n) = 0
form_number None = 11

-- A gate on its own line: its kind is 0 or 1, and its sources are below.
abbrev pub is_gate : ℕ → Gate → Bool
is_gate line gate = leb gate.kind 1 && ltb gate.left line && ltb gate.right line

-- An output or a lamp of a netlist of so many lines: both its lines are in the netlist.
abbrev pub is_pair : ℕ → Pair → Bool
is_pair lines pair = ltb pair.on lines && ltb pair.off lines

-- The gates' bytes, the first gate on line first.
abbrev pub are_gates : ℕ → List ℕ → Bool
are_gates first gates = all (length gates / 5) (λ g. is_gate (first + g) (gate_at gates g))

abbrev pub are_pairs : ℕ → List ℕ → Bool
are_pairs lines pairs = all (length pairs / 4) (λ j. is_pair lines (pair_at pairs j))

-- 12. Is every kind 0 or 1, every source below its gate's own line, every output line and lamp line in the netlist? No: 12. Asked of
-- the gates', the outputs' and the lamp's bytes.
unfoldable pub is_sound : ℕ → List ℕ → List ℕ → List ℕ → Bool
is_sound n gates pairs lamp =
    let lines = gate_line n + length gates / 5 in
    are_gates (gate_line n) gates && are_pairs lines pairs && are_pairs lines lamp

abbrev pub wiring_of : ℕ → List ℕ → List ℕ → List ℕ → Wiring
wiring_of n gates pairs lamp = cond (is_sound n gates pairs lamp) Sound Unsound

abbrev pub wiring_number : Wiring → ℕ
wiring_number Sound = 0
wiring_number Unsound = 12

-- The netlist that the fields hold, and that in a file.
unfoldable pub netlist_of : List Item → Netlist
netlist_of is = net_with (contacts_of is) (gates_of (value_in is 1)) (pairs_of (value_in is 2)) (pairs_of (value_in is 3))

abbrev pub netlist_in : List ℕ → Netlist
netlist_in file = netlist_of (fields_of file).items

-- Questions 11 and 12 about a netlist file.
unfoldable pub netlist_refusal : List ℕ → ℕ
netlist_refusal file =
    let is = (fields_of file).items in
    first_no
    (form_number (form_of (fields_of file))
    ∷ wiring_number (wiring_of (contacts_of is) (value_in is 1) (value_in is 2) (value_in is 3))
    ∷ [])
