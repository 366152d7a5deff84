-- A step from line 2 over all lines works out every line's value, and an accepted run leaves these.
use native.Mathlib.Omega.{arith}
use Prim.Native.Nat.{ℕ, zero, suc, ◌+◌, ◌*◌, ◌≤◌, min}
use mathlib.Core.Path.{◌≡◌, refl, sym, ap, ◌∙◌}
use mathlib.Core.Bool.{Bool, true, false, ◌&&◌, cond}
use mathlib.Core.List.{List, [], ◌∷◌, ◌++◌}
use borrow.Author.Tests.{leb-true, eq-eqb}
use lib.Dec.{eqb, leb}
use lib.ListN.{length, drop, take-append-drop}
use lib.Seq.{take_all}
use Rattle.fields.specs.Refusals.{first_no}
use Rattle.fields.proofs.Refusals.{first-yes}
use Rattle.files.specs.declared.room.Room.TheVariants.{Enough, Short}
use Rattle.files.specs.Room.{over, room_of, room_number}
use Rattle.netlist.specs.Netlist.{Netlist, gate_line, line_count, holds_of}
use Rattle.wiring.specs.Questions.{netlist_in}
use Rattle.drive.specs.declared.Rails.TheVariants.{Driven}
use Rattle.drive.specs.declared.Holds.TheVariants.{Ordered}
use Rattle.drive.specs.declared.Place.TheVariants.{Within, Outside}
use Rattle.drive.specs.Questions.{rails_of, rails_number, order_of, holds_number, place_of, place_number}
use Rattle.simulation.specs.Run.{Driver, work_out, holding, drivers_of, values_of, shown_by}
use Rattle.simulation.specs.Service.{Stepping, lines_before, stepped_values, stepped_or, step_refusal, step_of, ran_by, run_of}
use Rattle.simulation.proofs.Answers.{driven, driven-zero, ordered-zero}
use Rattle.simulation.proofs.Runs.{run_take}
use Rattle.simulation.proofs.Worked.{length-drivers}

-- What a yes to questions 21 and 9 says.
place-yes : (lines place : ℕ) → place_number (place_of lines place) ≡ 0 → (2 ≤ place) × (place ≤ lines)
place-yes lines place = go (leb 2 place) (leb place lines) refl refl
  where
    go : (a b : Bool) → leb 2 place ≡ a → leb place lines ≡ b → place_number (cond (a && b) Within Outside) ≡ 0 →
        (2 ≤ place) × (place ≤ lines)
    go true true p q e = (leb-true _ _ p, leb-true _ _ q)
    go true false p q e = absurd (omega arith)
    go false b p q e = absurd (omega arith)

room-yes : (wanted lent : ℕ) → room_number (room_of wanted lent) ≡ 0 → wanted ≤ lent
room-yes wanted lent = go (leb wanted lent) refl
  where
    go : (b : Bool) → leb wanted lent ≡ b → room_number (cond b Enough Short) ≡ 0 → wanted ≤ lent
    go true t e = leb-true _ _ t
    go false t e = absurd (omega arith)

-- What an accepted step says.
pub record Taken (net : Netlist) (rails holds : List ℕ) (place lines pairs : ℕ) : Type 0 where
  pub driven : rails_of net.contacts rails ≡ Driven
  pub ordered : order_of (gate_line net.contacts) (line_count net) holds ≡ Ordered
  pub from : 2 ≤ place
  pub upto : place ≤ line_count net
  pub room : line_count net ≤ lines
  pub paired : 2 * (length net.pairs + length net.lamp) ≤ pairs

pub taken-by : (net : Netlist) (rails holds : List ℕ) (place lines pairs : ℕ) →
    first_no
    (rails_number (rails_of net.contacts rails)
    ∷ holds_number (order_of (gate_line net.contacts) (line_count net) holds)
    ∷ place_number (place_of (line_count net) place)
    ∷ room_number (room_of (line_count net) lines)
    ∷ room_number (room_of (2 * (length net.pairs + length net.lamp)) pairs)
    ∷ [])
    ≡ 0 →
    Taken net rails holds place lines pairs
taken-by net rails holds place lines pairs e =
    let b = first-yes _ _ e in
    let c = first-yes _ _ b.1 in
    let d = first-yes _ _ c.1 in
    let f = first-yes _ _ d.1 in
    let g = first-yes _ _ f.1 in
    let p = place-yes _ _ d.0 in
    record {
      driven = driven-zero _ b.0;
      ordered = ordered-zero _ c.0;
      from = p.0;
      upto = p.1;
      room = room-yes _ _ f.0;
      paired = room-yes _ _ g.0;
    }

pub taken : (file rails holds : List ℕ) (place lines pairs : ℕ) → step_refusal file rails holds place lines pairs ≡ 0 →
    Taken (netlist_in file) rails holds place lines pairs
unfolding step_refusal
taken file rails holds place lines pairs e = taken-by (netlist_in file) rails holds place lines pairs (first-yes _ _ e).1

-- A step's refusal is that of its questions; with none it leaves what it worked out, and with one what it was lent.
module _ (file rails holds : List ℕ) (place count : ℕ) (lines pairs : List ℕ) where
  pub refusal_is :
      (step_of file rails holds place count lines pairs).refusal ≡ step_refusal file rails holds place (length lines) (length pairs)
  unfolding step_of
  refusal_is = go (step_refusal file rails holds place (length lines) (length pairs))
    where
      go : (k : ℕ) → (stepped_or k (netlist_in file) rails holds place count lines pairs).refusal ≡ k
      go zero = refl
      go (suc k) = refl

  pub step_is : (k : ℕ) → (step_of file rails holds place count lines pairs).refusal ≡ k →
      step_of file rails holds place count lines pairs ≡ stepped_or k (netlist_in file) rails holds place count lines pairs
  unfolding step_of
  step_is k e = ap (λ (j : ℕ). stepped_or j (netlist_in file) rails holds place count lines pairs) (sym refusal_is ∙ e)

-- As many lines have drivers as there are past the constants.
pub count_of : (net : Netlist) (rails : List ℕ) → rails_of net.contacts rails ≡ Driven →
    2 + length (drivers_of rails net.gates) ≡ line_count net
count_of net rails d = omega (arith, length-drivers rails net.gates, driven net.contacts rails d)

-- A step from line 2 that is told all lines.
module _ (net : Netlist) (rails holds lines : List ℕ) (count : ℕ) (all : length (drivers_of rails net.gates) ≤ count) where
  abbrev values : List ℕ
  values = values_of net rails (holds_of holds)

  pub whole-values : stepped_values net rails holds 2 count lines ≡ values
  unfolding values_of
  whole-values =
      ap (λ (ds : List (Driver ℕ)). work_out (holding (holds_of holds)) ds (0 ∷ 1 ∷ [])) (take_all count (drivers_of rails net.gates) all)

  pub whole-lines : over (lines_before 2 lines ++ drop 2 (stepped_values net rails holds 2 count lines)) lines ≡ over values lines
  unfolding values_of
  whole-lines =
      ap (λ (us : List ℕ). over us lines)
      (ap (λ (us : List ℕ). (0 ∷ 1 ∷ []) ++ drop 2 us) whole-values
      ∙ ap (λ (b : List ℕ). b ++ drop 2 values)
      (sym (run_take (holding (holds_of holds)) (drivers_of rails net.gates) (0 ∷ 1 ∷ [])))
      ∙ take-append-drop 2 values)

-- An accepted step from line 2 over all lines leaves every line's value and the pairs.
module _ (file rails holds lines pairs : List ℕ) (count : ℕ) (all : line_count (netlist_in file) ≤ 2 + count)
    (e : step_refusal file rails holds 2 (length lines) (length pairs) ≡ 0) where
  pub whole-step :
      let net = netlist_in file in
      let values = values_of net rails (holds_of holds) in
      step_of file rails holds 2 count lines pairs
      ≡ record { refusal = 0; place = line_count net; lines = over values lines; pairs = over (shown_by net values) pairs }
  unfolding step_of
  whole-step =
      let net = netlist_in file in
      let t = taken file rails holds 2 (length lines) (length pairs) e in
      let fits : length (drivers_of rails net.gates) ≤ count = omega (arith, count_of net rails t.driven) in
      let vs = values_of net rails (holds_of holds) in
      let out : min (2 + count) (line_count net) ≡ line_count net = omega arith in
      let ps = ap (λ (k : ℕ). cond (eqb k (line_count net)) (over (shown_by net (stepped_values net rails holds 2 count lines)) pairs) pairs) out
      ∙ ap (λ (b : Bool). cond b (over (shown_by net (stepped_values net rails holds 2 count lines)) pairs) pairs) (eq-eqb (line_count net) _ refl)
      ∙ ap (λ (us : List ℕ). over (shown_by net us) pairs) (whole-values net rails holds lines count fits) in
      rw e
      (λ i. record { refusal = 0; place = out i; lines = whole-lines net rails holds lines count fits i; pairs = ps i })

-- A run is one step from line 2, told as many lines as there are wherever it is accepted.
pub one-step : (file rails holds lines pairs : List ℕ) (count : ℕ) →
    (step_refusal file rails holds 2 (length lines) (length pairs) ≡ 0 → line_count (netlist_in file) ≤ 2 + count) →
    run_of file rails holds lines pairs ≡ ran_by (step_of file rails holds 2 count lines pairs)
unfolding run_of step_of
one-step file rails holds lines pairs count all = go (step_refusal file rails holds 2 (length lines) (length pairs)) refl
  where
    go : (k : ℕ) → step_refusal file rails holds 2 (length lines) (length pairs) ≡ k →
        ran_by (step_of file rails holds 2 (line_count (netlist_in file)) lines pairs) ≡ ran_by (step_of file rails holds 2 count lines pairs)
    go zero e =
        ap ran_by
        (whole-step file rails holds lines pairs (line_count (netlist_in file)) (omega arith) e
        ∙ sym (whole-step file rails holds lines pairs count (all e) e))
    go (suc k) e = rw e

-- What an accepted run leaves.
pub run-values : (file rails holds lines pairs : List ℕ) →
    let net = netlist_in file in
    let values = values_of net rails (holds_of holds) in
    let ran = run_of file rails holds lines pairs in
    ran.refusal ≡ 0 → (ran.lines ≡ over values lines) × (ran.pairs ≡ over (shown_by net values) pairs)
unfolding run_of
run-values file rails holds lines pairs e =
    let count = line_count (netlist_in file) in
    let all = whole-step file rails holds lines pairs count (omega arith) (sym (refusal_is file rails holds 2 count lines pairs) ∙ e) in
    (ap (λ (s : Stepping). s.lines) all, ap (λ (s : Stepping). s.pairs) all)
