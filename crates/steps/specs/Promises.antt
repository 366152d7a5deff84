-- What steps promise.
use Rattle.std.specs.Prelude.{ℕ, ◌+◌, ◌≤◌, ◌≡◌, List}
use Rattle.netlist.specs.declared.Hold.{Hold}
use Rattle.netlist.specs.Netlist.{holds_of, line_count}
use Rattle.wiring.specs.Questions.{netlist_in}
use Rattle.simulation.specs.Service.{Stepping, step_of, ran_by, run_of}
use Rattle.steps.specs.Steps.{counted_in, Steps, hold_list}

-- However many steps it took and whichever holds they brought: once the place is the line after the last, the lines and pairs are those
-- of one run, which is not refused, with just the holds that counted.
abbrev pub StepsMakeRun : Type 0
StepsMakeRun =
    (file rails lines : List ℕ) (counted : List Hold) (pairs : List ℕ) (s : Stepping) → Steps file rails lines counted pairs s →
    s.place ≡ line_count (netlist_in file) →
    run_of file rails (hold_list counted) lines pairs ≡ record { refusal = 0; lines = s.lines; pairs = s.pairs }

-- Holds that do not count in a step have no effect: two accepted steps whose hold lists differ in such holds alone are the same.
abbrev pub OthersNoEffect : Type 0
OthersNoEffect =
    (file rails holds others : List ℕ) (place count : ℕ) (lines pairs : List ℕ) →
    let s = step_of file rails holds place count lines pairs in
    let t = step_of file rails others place count lines pairs in
    s.refusal ≡ 0 → t.refusal ≡ 0 →
    counted_in place s.place (holds_of holds) ≡ counted_in place s.place (holds_of others) → s ≡ t

-- A run is one step from line 2 that is told at least as many lines as there are.
abbrev pub RunIsOneStep : Type 0
RunIsOneStep =
    (file rails holds lines pairs : List ℕ) (count : ℕ) → line_count (netlist_in file) ≤ 2 + count →
    run_of file rails holds lines pairs ≡ ran_by (step_of file rails holds 2 count lines pairs)
