-- Runs and steps of a small netlist, by computation: pins and lines held, apart and together; the first no; bytes past what is written;
-- a run in two calls. A wrong rule fails here too, in numbers.
use Prim.Native.Nat.{ℕ}
use mathlib.Core.Path.{◌≡◌, refl}
use mathlib.Core.List.{List, [], ◌∷◌, flat_map}
use Rattle.fields.specs.Bounded.{all, listed}
use Rattle.fields.specs.Fields.{raw_step_at, value_of, raw_fields_within, raw_fields_from, but_notes, fields_from, fields_of}
use Rattle.fields.specs.Refusals.{first_no}
use Rattle.files.specs.Header.{contacts_in}
use Rattle.netlist.specs.declared.Hold.{Hold}
use Rattle.netlist.specs.Netlist.{gates_of, pairs_of, holds_of}
use Rattle.wiring.specs.Questions.{form_of, is_sound, netlist_of, netlist_refusal}
use Rattle.drive.specs.Questions.{are_ordered}
use Rattle.simulation.specs.Run.{drive, work_out, held, values_of, shown_of}
use Rattle.simulation.specs.Service.{step_refusal, step_of, run_of}

-- One contact; line 4 is the AND of its rails, and the output's pair are lines 4 and 3.
abbrev file : List ℕ
file = 1 ∷ 0 ∷ 1 ∷ 1 ∷ 4 ∷ 0 ∷ 5 ∷ 0 ∷ 0 ∷ 2 ∷ 0 ∷ 3 ∷ 5 ∷ 0 ∷ 4 ∷ 0 ∷ 4 ∷ 0 ∷ 3 ∷ []

-- Every line's value with the contact closed and some holds.
abbrev shown : List Hold → List ℕ
shown holds =
    values_of
    (record { contacts = 1; gates = record { kind = 0; left = 2; right = 3 } ∷ []; pairs = record { on = 4; off = 3 } ∷ []; lamp = [] })
    (1 ∷ 0 ∷ []) holds

abbrev hold : ℕ → ℕ → Hold
hold line value = record { line = line; value = value }

-- The second pin of line 4 held at 1 makes it 1, the first one does not; no source changes.
pins : (shown [] ≡ 0 ∷ 1 ∷ 1 ∷ 0 ∷ 0 ∷ []) × (shown (hold 4 3 ∷ []) ≡ 0 ∷ 1 ∷ 1 ∷ 0 ∷ 0 ∷ [])
    × (shown (hold 4 5 ∷ []) ≡ 0 ∷ 1 ∷ 1 ∷ 0 ∷ 1 ∷ [])
unfolding drive work_out held values_of
pins = (refl, refl, refl)

-- The line's own hold decides, before its pins and after them.
line-decides : (shown (hold 4 0 ∷ hold 4 5 ∷ []) ≡ 0 ∷ 1 ∷ 1 ∷ 0 ∷ 0 ∷ []) × (shown (hold 4 1 ∷ hold 4 2 ∷ []) ≡ 0 ∷ 1 ∷ 1 ∷ 0 ∷ 1 ∷ [])
unfolding drive work_out held values_of
line-decides = (refl, refl)

-- Two bytes of each buffer are left over.
bytes_left : run_of file (1 ∷ 0 ∷ []) (0 ∷ 4 ∷ 5 ∷ []) (7 ∷ 7 ∷ 7 ∷ 7 ∷ 7 ∷ 7 ∷ 7 ∷ []) (8 ∷ 8 ∷ 8 ∷ 8 ∷ [])
    ≡ record { refusal = 0; lines = 0 ∷ 1 ∷ 1 ∷ 0 ∷ 1 ∷ 7 ∷ 7 ∷ []; pairs = 1 ∷ 0 ∷ 8 ∷ 8 ∷ [] }
unfolding all listed raw_step_at value_of raw_fields_within raw_fields_from but_notes fields_from fields_of first_no contacts_in gates_of pairs_of holds_of form_of is_sound netlist_of netlist_refusal are_ordered drive work_out held values_of shown_of step_refusal step_of run_of flat_map
bytes_left = refl

-- Rails, holds and place are wrong: 13. Holds and place: 14. The place and both buffers: 21, also two lines past the last; the line after
-- the last is a place, and then a buffer is too short.
first-no : (step_refusal file (1 ∷ 7 ∷ []) (0 ∷ 9 ∷ 1 ∷ []) 1 5 2 ≡ 13) × (step_refusal file (1 ∷ 0 ∷ []) (0 ∷ 9 ∷ 1 ∷ []) 1 5 2 ≡ 14)
    × (step_refusal file (1 ∷ 0 ∷ []) [] 1 4 1 ≡ 21) × (step_refusal file (1 ∷ 0 ∷ []) [] 6 4 1 ≡ 21) × (step_refusal file (1 ∷ 0 ∷ []) [] 5 5 1 ≡ 9)
unfolding all listed raw_step_at value_of raw_fields_within raw_fields_from but_notes fields_from fields_of first_no contacts_in gates_of pairs_of form_of is_sound netlist_of netlist_refusal are_ordered step_refusal
first-no = (refl, refl, refl, refl, refl)

-- Two lines from line 2 on, with line 3 held; the hold of line 4 has no effect, and no pair is written. Then line 4, with its hold; the one
-- of line 3 comes too late.
two-calls : (step_of file (1 ∷ 0 ∷ []) (0 ∷ 3 ∷ 1 ∷ 0 ∷ 4 ∷ 0 ∷ []) 2 2 (7 ∷ 7 ∷ 7 ∷ 7 ∷ 7 ∷ 7 ∷ []) (8 ∷ 8 ∷ 8 ∷ [])
    ≡ record { refusal = 0; place = 4; lines = 0 ∷ 1 ∷ 1 ∷ 1 ∷ 7 ∷ 7 ∷ []; pairs = 8 ∷ 8 ∷ 8 ∷ [] })
    × (step_of file (1 ∷ 0 ∷ []) (0 ∷ 3 ∷ 0 ∷ []) 4 9 (0 ∷ 1 ∷ 1 ∷ 1 ∷ 7 ∷ 7 ∷ []) (8 ∷ 8 ∷ 8 ∷ [])
    ≡ record { refusal = 0; place = 5; lines = 0 ∷ 1 ∷ 1 ∷ 1 ∷ 1 ∷ 7 ∷ []; pairs = 1 ∷ 1 ∷ 8 ∷ [] })
unfolding all listed raw_step_at value_of raw_fields_within raw_fields_from but_notes fields_from fields_of first_no contacts_in gates_of pairs_of holds_of form_of is_sound netlist_of netlist_refusal are_ordered drive work_out held shown_of step_refusal step_of flat_map
two-calls = (refl, refl)

-- Bytes 9 and 2 are read as 1 and stay, the constants are set, and so is the pair, by a call of no line.
odd-bytes : (step_of file (1 ∷ 0 ∷ []) [] 4 1 (5 ∷ 6 ∷ 9 ∷ 2 ∷ 7 ∷ []) (8 ∷ 8 ∷ [])
    ≡ record { refusal = 0; place = 5; lines = 0 ∷ 1 ∷ 9 ∷ 2 ∷ 1 ∷ []; pairs = 1 ∷ 1 ∷ [] })
    × (step_of file (1 ∷ 0 ∷ []) [] 5 0 (5 ∷ 6 ∷ 9 ∷ 2 ∷ 3 ∷ []) (8 ∷ 8 ∷ [])
    ≡ record { refusal = 0; place = 5; lines = 0 ∷ 1 ∷ 9 ∷ 2 ∷ 3 ∷ []; pairs = 1 ∷ 1 ∷ [] })
unfolding all listed raw_step_at value_of raw_fields_within raw_fields_from but_notes fields_from fields_of first_no contacts_in gates_of pairs_of holds_of form_of is_sound netlist_of netlist_refusal are_ordered drive work_out held shown_of step_refusal step_of flat_map
odd-bytes = (refl, refl)
