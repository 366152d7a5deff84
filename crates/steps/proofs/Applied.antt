-- Steps of a small netlist, by computation: which holds count, their hold list, and three steps that end as one run. A wrong definition
-- fails here too, in numbers.
use Prim.Native.Nat.{ℕ}
use mathlib.Core.Path.{◌≡◌, refl}
use mathlib.Core.List.{List, [], ◌∷◌, flat_map}
use Rattle.fields.specs.Bounded.{all, listed}
use Rattle.fields.specs.Fields.{raw_step_at, value_of, raw_fields_within, raw_fields_from, but_notes, fields_from, fields_of}
use Rattle.fields.specs.Refusals.{first_no}
use Rattle.files.specs.Header.{contacts_in}
use Rattle.netlist.specs.declared.Hold.{Hold}
use Rattle.netlist.specs.Netlist.{gates_of, pairs_of, holds_of}
use Rattle.wiring.specs.Questions.{form_of, is_sound, netlist_of, netlist_refusal}
use Rattle.drive.specs.Questions.{are_ordered}
use Rattle.simulation.specs.Run.{drive, work_out, held, shown_of}
use Rattle.simulation.specs.Service.{Stepping, step_refusal, step_of, run_of}
use Rattle.steps.specs.Steps.{passing, counted_in, Steps, first, next, hold_list}

abbrev hold : ℕ → ℕ → Hold
hold line value = record { line = line; value = value }

-- Of lines 3 to 6 and a pin of line 5, those of a step from line 4 to line 6.
counted : counted_in 4 6 (hold 3 1 ∷ hold 4 0 ∷ hold 5 1 ∷ hold 6 0 ∷ hold 5 3 ∷ []) ≡ hold 4 0 ∷ hold 5 1 ∷ hold 5 3 ∷ []
unfolding passing
counted = refl

-- A pin of line 5 counted before line 261: the line comes first.
list : hold_list (hold 5 3 ∷ hold 261 0 ∷ []) ≡ 1 ∷ 5 ∷ 0 ∷ 0 ∷ 5 ∷ 3 ∷ []
unfolding passing flat_map
list = refl

-- One contact; line 4 is the AND of its rails, line 5 the OR of line 4 and its true rail; the output's pair are lines 5 and 4.
abbrev file : List ℕ
file = 1 ∷ 0 ∷ 1 ∷ 1 ∷ 4 ∷ 0 ∷ 10 ∷ 0 ∷ 0 ∷ 2 ∷ 0 ∷ 3 ∷ 1 ∷ 0 ∷ 4 ∷ 0 ∷ 2 ∷ 5 ∷ 0 ∷ 4 ∷ 0 ∷ 5 ∷ 0 ∷ 4 ∷ []

abbrev rails : List ℕ
rails = 0 ∷ 1 ∷ []

-- Lines 2 and 3, line 4, line 5. In the first step line 3 is held, and the hold of line 4 comes too early; in the second the first pin of
-- line 4 is held, and the hold of line 3 comes too late; in the third the hold of line 4 does.
abbrev one : Stepping
one = record { refusal = 0; place = 4; lines = 0 ∷ 1 ∷ 0 ∷ 1 ∷ 7 ∷ 7 ∷ []; pairs = 9 ∷ 9 ∷ [] }

abbrev two : Stepping
two = record { refusal = 0; place = 5; lines = 0 ∷ 1 ∷ 0 ∷ 1 ∷ 1 ∷ 7 ∷ []; pairs = 8 ∷ 8 ∷ [] }

abbrev three : Stepping
three = record { refusal = 0; place = 6; lines = 0 ∷ 1 ∷ 0 ∷ 1 ∷ 1 ∷ 1 ∷ []; pairs = 1 ∷ 1 ∷ 5 ∷ [] }

abbrev lent : List ℕ
lent = 7 ∷ 7 ∷ 7 ∷ 7 ∷ 7 ∷ 7 ∷ []

three-steps : Steps file rails lent (hold 3 1 ∷ hold 4 3 ∷ []) (6 ∷ 6 ∷ 5 ∷ []) three
unfolding all listed raw_step_at value_of raw_fields_within raw_fields_from but_notes fields_from fields_of first_no contacts_in gates_of pairs_of holds_of form_of is_sound netlist_of netlist_refusal are_ordered drive work_out held shown_of step_refusal step_of flat_map passing
three-steps =
    next _ (8 ∷ 8 ∷ []) two
    (next _ (9 ∷ 9 ∷ []) one (first (0 ∷ 3 ∷ 1 ∷ 0 ∷ 4 ∷ 0 ∷ []) 2 (9 ∷ 9 ∷ []) one refl refl) (0 ∷ 3 ∷ 0 ∷ 0 ∷ 4 ∷ 3 ∷ []) 1 (8 ∷ 8 ∷ []) two refl refl)
    (0 ∷ 4 ∷ 0 ∷ []) 7 (6 ∷ 6 ∷ 5 ∷ []) three refl refl

-- The end is that of one run with the two holds that counted.
one-run : run_of file rails (0 ∷ 3 ∷ 1 ∷ 0 ∷ 4 ∷ 3 ∷ []) lent (6 ∷ 6 ∷ 5 ∷ [])
    ≡ record { refusal = 0; lines = three.lines; pairs = three.pairs }
unfolding all listed raw_step_at value_of raw_fields_within raw_fields_from but_notes fields_from fields_of first_no contacts_in gates_of pairs_of holds_of form_of is_sound netlist_of netlist_refusal are_ordered drive work_out held shown_of step_refusal step_of run_of flat_map
one-run = refl
