-- What steps leave: the values of the lines below their place out, with the holds that counted.
use native.Mathlib.Omega.{arith}
use Prim.Native.Nat.{ℕ, zero, ◌+◌, ◌*◌, ◌-◌, ◌≤◌, min}
use mathlib.Core.Path.{◌≡◌, refl, sym, ap, subst, ◌∙◌}
use mathlib.Core.Bool.{Bool, cond}
use mathlib.Core.List.{List, [], ◌++◌, map}
use borrow.Author.Tests.{eq-eqb}
use lib.ListN.{length, take, drop, length-append, length-drop, take-append-drop}
use Rattle.files.specs.Room.{over}
use Rattle.files.proofs.Buffers.{over-over}
use Rattle.netlist.specs.declared.Hold.{Hold}
use Rattle.netlist.specs.Netlist.{Netlist, gate_line, line_count, holds_of}
use Rattle.drive.specs.declared.Rails.TheVariants.{Driven}
use Rattle.drive.specs.Questions.{rails_of}
use Rattle.wiring.specs.Questions.{netlist_in, netlist_refusal}
use Rattle.simulation.specs.Run.{Driver, work_out, holding, drivers_of, shown_by}
use Rattle.simulation.specs.Service.{Stepping, read_back, lines_before, stepped_values, stepped_or, step_refusal, step_of}
use Rattle.simulation.proofs.Answers.{driven-bits, ordered}
use Rattle.simulation.proofs.Runs.{run_take}
use Rattle.simulation.proofs.Stepped.{ends_at}
use Rattle.simulation.proofs.Whole.{Taken, taken, refusal_is, step_is, count_of}
use Rattle.steps.specs.Steps.{counted_in, Steps, first, next}
use Rattle.steps.proofs.Rising.{list-rises}
use Rattle.steps.proofs.Ordered.{Ranked, none-ranked, ranked-more}
use Rattle.steps.proofs.Below.{below, length-below, below_more, below-read, below-kept}
use Rattle.steps.proofs.Accepted.{sound}

module _ (file rails lines : List ℕ) where
  abbrev net : Netlist
  net = netlist_in file

  abbrev values : List Hold → ℕ → List ℕ
  values = below rails net.gates

  -- A place that steps came to, and a line buffer as they left it or, at line 2, as it came.
  pub record Left (counted : List Hold) (place : ℕ) (ls : List ℕ) : Type 0 where
    pub from : 2 ≤ place
    pub ranked : Ranked (gate_line net.contacts) (line_count net) place counted
    pub back : lines_before place ls ≡ values counted place
    pub covers : (ws : List ℕ) → place ≤ length ws → over ws ls ≡ over ws lines
    pub size : length ls ≡ length lines

  -- What the last of some steps left.
  pub record Stands (counted : List Hold) (pairs : List ℕ) (s : Stepping) : Type 0 where
    pub left : Left counted s.place s.lines
    pub accepted : netlist_refusal file ≡ 0
    pub driven : rails_of net.contacts rails ≡ Driven
    pub room : line_count net ≤ length lines
    pub paired : 2 * (length net.pairs + length net.lamp) ≤ length pairs
    pub worked : s.lines ≡ over (values counted s.place) lines
    pub shown : s.place ≡ line_count net → s.pairs ≡ over (shown_by net (values counted s.place)) pairs

  -- Before the first step.
  start : Left [] 2 lines
  unfolding work_out
  start =
      record { from = omega arith; ranked = none-ranked _ _ 2; back = refl; covers = λ ws l. refl; size = refl }

  -- One step more.
  module _ (counted : List Hold) (place : ℕ) (ls : List ℕ) (old : Left counted place ls) (holds : List ℕ) (count : ℕ) (pairs : List ℕ) where
    abbrev H : List Hold
    H = holds_of holds

    module _ (ok : netlist_refusal file ≡ 0) (t : Taken net rails holds place (length ls) (length pairs)) where
      abbrev out : ℕ
      out = min (place + count) (line_count net)

      abbrev vs : List ℕ
      vs = stepped_values net rails holds place count ls

      abbrev all : List Hold
      all = counted ++ counted_in place out H

      lines_of : 2 + length (drivers_of rails net.gates) ≡ line_count net
      lines_of = count_of net rails t.driven

      abbrev ds : List (Driver ℕ)
      ds = take count (drop (place - 2) (drivers_of rails net.gates))

      ends : out ≡ place + length ds
      ends = ends_at net rails holds place count ls lines_of t.from t.upto

      read : vs ≡ work_out (holding H) ds (values counted place)
      read =
          ap (λ (us : List ℕ). work_out (holding H) ds (map read_back us)) old.back
          ∙ ap (work_out (holding H) ds) (below-read rails net.gates (driven-bits net.contacts rails t.driven) counted place)

      upto : place ≤ 2 + length (drivers_of rails net.gates)
      upto = omega (arith, lines_of, t.upto)

      is : vs ≡ values all out
      is = read ∙ below_more rails net.gates counted place old.from upto old.ranked.before H count out ends

      after : 2 ≤ out
      after = omega (arith, old.from)

      within : out ≤ 2 + length (drivers_of rails net.gates)
      within = omega (arith, lines_of)

      -- The earlier lines stay as they were.
      front : lines_before place ls ++ drop place vs ≡ vs
      front =
          let us = values counted place in
          let kept : take place vs ≡ us =
          ap (take place) read ∙ (rw (length-below rails net.gates counted place old.from upto) at (run_take (holding H) ds us)) in
          ap (λ (b : List ℕ). b ++ drop place vs) (old.back ∙ sym kept) ∙ take-append-drop place vs

      length-all : length (values all out) ≡ out
      length-all = length-below rails net.gates all out after within

      worked : over (lines_before place ls ++ drop place vs) ls ≡ over (values all out) lines
      worked =
          ap (λ (b : List ℕ). over b ls) (front ∙ is)
          ∙ old.covers (values all out) (omega (arith, length-all, t.upto))

      stands : Stands all pairs (stepped_or zero net rails holds place count ls pairs)
      stands =
          record {
            left = record {
              from = after;
              ranked =
                  ranked-more _ _ counted place out H old.from (omega (arith, t.upto)) old.ranked
                  (list-rises _ _ holds (ordered _ _ holds t.ordered));
              back = ap (lines_before out) worked ∙ below-kept rails net.gates all out after within lines;
              covers = λ ws l. ap (over ws) worked ∙ over-over ws lines (values all out) (omega (arith, length-all));
              size =
                  ap length worked ∙ length-append (values all out) (drop (length (values all out)) lines)
                  ∙ omega (arith, length-drop (length (values all out)) lines, length-all, t.room, old.size);
            };
            accepted = ok;
            driven = t.driven;
            room = omega (arith, t.room, old.size);
            paired = t.paired;
            worked = worked;
            shown = λ e.
                ap (λ (b : Bool). cond b (over (shown_by net vs) pairs) pairs) (eq-eqb _ _ e)
                ∙ ap (λ (us : List ℕ). over (shown_by net us) pairs) is;
          }

    onward : (s : Stepping) → s ≡ step_of file rails holds place count ls pairs → s.refusal ≡ 0 →
        Stands (counted ++ counted_in place s.place H) pairs s
    onward s e yes! =
        let none : (step_of file rails holds place count ls pairs).refusal ≡ 0 = ap (λ (r : Stepping). r.refusal) (sym e) ∙ yes! in
        let no : step_refusal file rails holds place (length ls) (length pairs) ≡ 0 =
        sym (refusal_is file rails holds place count ls pairs) ∙ none in
        subst (λ (r : Stepping). Stands (counted ++ counted_in place r.place H) pairs r)
        (sym (e ∙ step_is file rails holds place count ls pairs 0 none))
        (stands (sound file rails holds place (length ls) (length pairs) no) (taken file rails holds place (length ls) (length pairs) no))

  pub steps-stand : (counted : List Hold) (pairs : List ℕ) (s : Stepping) → Steps file rails lines counted pairs s → Stands counted pairs s
  steps-stand _ _ _ (first holds count pairs s e yes!) = onward [] 2 lines start holds count pairs s e yes!
  steps-stand _ _ _ (next counted others r before holds count pairs s e yes!) =
      onward counted r.place r.lines (steps-stand counted others r before).left holds count pairs s e yes!
