-- The services step and run: what they return and write.
use Rattle.std.specs.Prelude.{ℕ, zero, suc, ◌+◌, ◌*◌, ◌-◌, min, cond, List, [], ◌∷◌, ◌++◌, map, eqb, length, take, drop}
use Rattle.fields.specs.Refusals.{first_no}
use Rattle.files.specs.Room.{room_of, room_number, over}
use Rattle.netlist.specs.Netlist.{Netlist, holds_of, gate_line, line_count}
use Rattle.wiring.specs.Questions.{netlist_in, netlist_refusal}
use Rattle.drive.specs.Questions.{rails_of, rails_number, order_of, holds_number, place_of, place_number}
use Rattle.simulation.specs.Run.{holding, drivers_of, work_out, shown_by}

-- What a step returns, and what it leaves in the two lent buffers.
pub record Stepping : Type 0 where
  pub refusal : ℕ
  pub place : ℕ
  pub lines : List ℕ
  pub pairs : List ℕ

-- Questions 11, 12, 13, 14, 21 and 9, in this sequence.
unfoldable pub step_refusal : List ℕ → List ℕ → List ℕ → ℕ → ℕ → ℕ → ℕ
step_refusal file rails holds place lines pairs =
    let net = netlist_in file in
    first_no
    (netlist_refusal file
    ∷ rails_number (rails_of net.contacts rails)
    ∷ holds_number (order_of (gate_line net.contacts) (line_count net) holds)
    ∷ place_number (place_of (line_count net) place)
    ∷ room_number (room_of (line_count net) lines)
    ∷ room_number (room_of (2 * (length net.pairs + length net.lamp)) pairs)
    ∷ [])

-- How the byte of an earlier line is read: one that is neither 0 nor 1 as 1.
abbrev pub read_back : ℕ → ℕ
read_back byte = cond (eqb byte 0) 0 1

-- The lines before a place, as a buffer has them once the constants' two bytes are set.
abbrev pub lines_before : ℕ → List ℕ → List ℕ
lines_before place lines = take place (over (0 ∷ 1 ∷ []) lines)

-- Every line's value up to where a step ends: the earlier lines as they are read, then as many from the place on as the step is told,
-- or all that are left if these are fewer.
abbrev pub stepped_values : Netlist → List ℕ → List ℕ → ℕ → ℕ → List ℕ → List ℕ
stepped_values net rails holds place count lines =
    work_out (holding (holds_of holds)) (take count (drop (place - 2) (drivers_of rails net.gates))) (map read_back (lines_before place lines))

-- The lines worked out go to the first buffer, behind the earlier ones, which stay as they are; the pairs go to the second exactly if
-- the place out is the line after the last. A refusal leaves both as they came.
abbrev pub stepped_or : ℕ → Netlist → List ℕ → List ℕ → ℕ → ℕ → List ℕ → List ℕ → Stepping
stepped_or zero net rails holds place count lines pairs =
    let out = min (place + count) (line_count net) in
    let values = stepped_values net rails holds place count lines in
    record {
      refusal = 0;
      place = out;
      lines = over (lines_before place lines ++ drop place values) lines;
      pairs = cond (eqb out (line_count net)) (over (shown_by net values) pairs) pairs;
    }
stepped_or (suc k) net rails holds place count lines pairs = record { refusal = suc k; place = 0; lines = lines; pairs = pairs }

unfoldable pub step_of : List ℕ → List ℕ → List ℕ → ℕ → ℕ → List ℕ → List ℕ → Stepping
step_of file rails holds place count lines pairs =
    stepped_or (step_refusal file rails holds place (length lines) (length pairs)) (netlist_in file) rails holds place count lines pairs

-- What a run returns, and what it leaves in the two lent buffers.
pub record Ran : Type 0 where
  pub refusal : ℕ
  pub lines : List ℕ
  pub pairs : List ℕ

abbrev pub ran_by : Stepping → Ran
ran_by s = record { refusal = s.refusal; lines = s.lines; pairs = s.pairs }

-- A run is one step from line 2 over all lines.
unfoldable pub run_of : List ℕ → List ℕ → List ℕ → List ℕ → List ℕ → Ran
run_of file rails holds lines pairs = ran_by (step_of file rails holds 2 (line_count (netlist_in file)) lines pairs)
