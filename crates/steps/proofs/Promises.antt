-- Steps make a run, holds that do not count have no effect, and a run is one step.
use native.Mathlib.Omega.{arith}
use Prim.Native.Nat.{ℕ, ◌+◌, ◌-◌, ◌≤◌, ◌<◌, min}
use mathlib.Core.Path.{◌≡◌, sym, ap, subst, ◌∙◌}
use mathlib.Core.Bool.{Bool, cond}
use mathlib.Core.List.{List, [], ◌∷◌, ◌++◌, map}
use lib.Dec.{eqb}
use lib.ListN.{length, take, drop, length-map}
use lib.Seq.{take_all}
use Rattle.files.specs.Room.{over}
use Rattle.netlist.specs.declared.Hold.{Hold}
use Rattle.netlist.specs.Netlist.{gate_line, line_count, holds_of}
use Rattle.netlist.proofs.Files.{holds-back}
use Rattle.drive.specs.declared.Holds.TheVariants.{Ordered, Disordered}
use Rattle.wiring.specs.Questions.{netlist_in}
use Rattle.wiring.proofs.Accepted.{accepted}
use Rattle.simulation.specs.Run.{Driver, held, work_out, holding, drivers_of, values_of, shown_by}
use Rattle.simulation.specs.Service.{Stepping, read_back, lines_before, stepped_values, ran_by, run_of}
use Rattle.simulation.proofs.Stepped.{length_before, ends_at}
use Rattle.simulation.proofs.Whole.{taken, count_of, refusal_is, step_is, whole-step, one-step}
use Rattle.steps.specs.Steps.{passing, counted_in, hold_list}
use Rattle.steps.specs.Promises.{StepsMakeRun, OthersNoEffect, RunIsOneStep}
use Rattle.steps.proofs.Sites.{of_line, of_pin, held-within, held-apart, hold-agree}
use Rattle.steps.proofs.Ordered.{list-ordered}
use Rattle.steps.proofs.Below.{below}
use Rattle.steps.proofs.Accepted.{accepts}
use Rattle.steps.proofs.Stands.{steps-stand}

pub run-is-one-step : RunIsOneStep
run-is-one-step file rails holds lines pairs count all = one-step file rails holds lines pairs count (λ _. all)

pub others-no-effect : OthersNoEffect
others-no-effect file rails holds others place count lines pairs e f same =
    let net = netlist_in file in
    let s = step_is file rails holds place count lines pairs 0 e in
    let t = taken file rails holds place (length lines) (length pairs) (sym (refusal_is file rails holds place count lines pairs) ∙ e) in
    let out = min (place + count) (line_count net) in
    let ends = ends_at net rails holds place count lines (count_of net rails t.driven) t.from t.upto in
    let alike : counted_in place out (holds_of holds) ≡ counted_in place out (holds_of others) =
    subst (λ (k : ℕ). counted_in place k (holds_of holds) ≡ counted_in place k (holds_of others)) (ap (λ (r : Stepping). r.place) s) same in
    let before = lines_before place lines in
    let ds = take count (drop (place - 2) (drivers_of rails net.gates)) in
    let room = t.room in
    let upto = t.upto in
    let from = t.from in
    let size : length (map read_back before) ≡ place =
    length-map before read_back ∙ length_before place lines (omega arith) (omega arith) in
    let vs : stepped_values net rails holds place count lines ≡ stepped_values net rails others place count lines =
    hold-agree (holds_of holds) (holds_of others) ds (map read_back before)
    (λ x s v l g.
    let a : place ≤ x = omega arith in
    let b : x < out = omega arith in
    sym (held-within place out x s v a b (holds_of holds)) ∙ ap (λ (hs : List Hold). held hs x s v) alike
    ∙ held-within place out x s v a b (holds_of others)) in
    s
    ∙ (λ i. record {
      refusal = 0;
      place = out;
      lines = over (before ++ drop place (vs i)) lines;
      pairs = cond (eqb out (line_count net)) (over (shown_by net (vs i)) pairs) pairs;
    })
    ∙ sym (step_is file rails others place count lines pairs 0 f)

pub steps-make-run : StepsMakeRun
unfolding run_of values_of
steps-make-run file rails lines counted pairs s steps end =
    let net = netlist_in file in
    let w = steps-stand file rails lines counted pairs s steps in
    let drivers = drivers_of rails net.gates in
    let count = count_of net rails w.driven in
    let few = (accepted file w.accepted).bounds in
    let list = passing of_line counted ++ passing of_pin counted in
    let ok = list-ordered (gate_line net.contacts) (line_count net) counted s.place
    (omega (arith, few.most, few.gates)) w.left.ranked in
    let yes! = accepts file rails (hold_list counted) 2 (length lines) (length pairs) w.accepted
    (record {
      driven = w.driven;
      ordered = ap (λ (b : Bool). cond b Ordered Disordered) ok;
      from = omega arith;
      upto = omega arith;
      room = w.room;
      paired = w.paired;
    }) in
    let values : values_of net rails (holds_of (hold_list counted)) ≡ below rails net.gates counted s.place =
    ap (λ (hs : List Hold). work_out (holding hs) drivers (0 ∷ 1 ∷ [])) (holds-back list)
    ∙ hold-agree list counted drivers (0 ∷ 1 ∷ []) (λ x s v l g. held-apart x s v counted)
    ∙ ap (λ (ds : List (Driver ℕ)). work_out (holding counted) ds (0 ∷ 1 ∷ [])) (sym (take_all (s.place - 2) drivers (omega arith))) in
    let ls = ap (λ (vs : List ℕ). over vs lines) values ∙ sym w.worked in
    let ps = ap (λ (vs : List ℕ). over (shown_by net vs) pairs) values ∙ sym (w.shown end) in
    ap (λ (r : Stepping). ran_by r) (whole-step file rails (hold_list counted) lines pairs (line_count net) (omega arith) yes!)
    ∙ (λ i. record { refusal = 0; lines = ls i; pairs = ps i })
