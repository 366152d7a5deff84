-- What a step refuses and what it leaves, question by question.
use borrow.Author.Tests.{eq-eqb, ne_eqb}
use native.Mathlib.Omega.{arith}
use Prim.Native.Nat.{ℕ, suc, ◌+◌, ◌-◌, ◌/◌, min}
use mathlib.Core.Path.{◌≡◌, refl, sym, ap, ap₂, ◌∙◌}
use mathlib.Core.Bool.{Bool, true, cond}
use mathlib.Core.List.{List, ◌++◌, map}
use lib.Dec.{eqb}
use lib.ListN.{length, get_or, take, drop}
use Rattle.fields.proofs.Refusals.{first-no, first_next}
use Rattle.files.specs.declared.refusal.Refusal.{Refusal}
use Rattle.files.specs.Refusals.{number_of}
use Rattle.files.specs.Room.{over}
use Rattle.files.proofs.Refusals.{above_zero, not_zero}
use Rattle.netlist.specs.Netlist.{Netlist, gate_line, line_count, gates_of, pairs_of, pair_at, holds_of}
use Rattle.netlist.proofs.Lists.{length-gates, length_pairs, get_or-pairs}
use Rattle.wiring.specs.Questions.{are_pairs, netlist_refusal}
use Rattle.wiring.specs.declared.parts.Parts.{Parts}
use Rattle.wiring.specs.Inner.Read.{PartsOf, netlist_by, IsSound}
use Rattle.wiring.proofs.Opened.{opened, net-is, outputs-sound, lamp-sound}
use Rattle.wiring.proofs.Tests.{pairs-at}
use Rattle.simulation.specs.Run.{Driver, holding, drivers_of, work_out, shown_of, shown_by}
use Rattle.simulation.specs.Service.{read_back, lines_before, stepped_values, stepped_or, step_refusal, step_of}
use Rattle.simulation.proofs.Answers.{driven-bits}
use Rattle.simulation.proofs.Shown.{shown-same}
use Rattle.simulation.proofs.Stepped.{as_many, read_at}
use Rattle.simulation.proofs.Whole.{Taken, taken-by, count_of}
use Rattle.evaluation.specs.Inner.Walk.{stepped_over}
use Rattle.run.specs.Inner.Asking.{asking_by}

module _ (p : Parts) (rails holds : List ℕ) (place count : ℕ) (lines pairs : List ℕ) where
  abbrev net : Netlist
  net = netlist_by p

  abbrev end : ℕ
  end = gate_line p.contacts + length p.gates.now / 5

  abbrev asking : ℕ
  asking = asking_by p rails holds place (length lines) (length pairs)

  -- What a step returns, and what it leaves in the two buffers.
  abbrev pub StepLeaves : ℕ → ℕ → List ℕ → List ℕ → Type 0
  StepLeaves k q ls ps =
      record { refusal = k; place = q; lines = ls; pairs = ps } ≡ stepped_or asking net rails holds place count lines pairs

  pub unanswered : (r : Refusal) → number_of r ≡ asking → StepLeaves (number_of r) 0 lines pairs
  unanswered r e =
      let above = above_zero r in
      rw (← e, above.1) refl

  -- The same of the netlist in a file, and of one that is refused for its questions.
  pub of_file : {file : List ℕ} → netlist_refusal file ≡ 0 → PartsOf file p →
      stepped_or asking net rails holds place count lines pairs ≡ step_of file rails holds place count lines pairs
  unfolding step_of step_refusal
  of_file {file} z o =
      let opened = opened file o z in
      rw (first_next _ _ z, net-is opened, length-gates p.gates.now, length_pairs p.outputs.now, length_pairs p.lamp.now) refl

  -- Once all questions have their yes.
  module _ (s : IsSound p) (a : 0 ≡ asking) where
    pub count-is : line_count net ≡ end
    count-is = ap (◌+◌ (gate_line p.contacts)) (length-gates p.gates.now)

    pub given : Taken net rails holds place (length lines) (length pairs)
    given =
        taken-by net rails holds place (length lines) (length pairs)
        (rw (length-gates p.gates.now, length_pairs p.outputs.now, length_pairs p.lamp.now) (sym a))

    module _ {to : ℕ} {ls : List ℕ} (t : to ≡ min (place + count) end)
        (l : ls ≡ stepped_over (holds_of holds) rails p.gates.now place to lines) where
      abbrev values : List ℕ
      values = stepped_values net rails holds place count lines

      out : to ≡ min (place + count) (line_count net)
      out = rw count-is t

      lines_left : ls ≡ over (lines_before place lines ++ drop place values) lines
      lines_left =
          l ∙ ap (λ (ds : List (Driver ℕ)).
          over (lines_before place lines ++ drop place (work_out (holding (holds_of holds)) ds (map read_back (lines_before place lines)))) lines)
          (ap (λ (k : ℕ). take (k - place) (drop (place - 2) (drivers_of rails (gates_of p.gates.now)))) out
          ∙ as_many net rails holds place count lines (count_of net rails given.driven) given.from given.upto)

      leaves : {q : ℕ} {ps : List ℕ} → q ≡ to → ps ≡ cond (eqb (min (place + count) (line_count net)) (line_count net)) (over (shown_by net values) pairs) pairs →
          StepLeaves 0 q ls ps
      unfolding step_of
      leaves e w = rw (← a) (λ i. record { refusal = 0; place = (e ∙ out) i; lines = lines_left i; pairs = w i })

      pub part : {q : ℕ} {ps : List ℕ} → q ≡ to → (to ≡ end → ⊥) → ps ≡ pairs → StepLeaves 0 q ls ps
      part e h w =
          leaves e
          (w ∙ sym (ap (λ (b : Bool). cond b (over (shown_by net values) pairs) pairs)
          (ne_eqb (min (place + count) (line_count net)) (line_count net) (λ f. h (omega (arith, out, count-is))))))

      -- The pairs are those of the step's values.
      shown : to ≡ end → (v : List ℕ) → are_pairs end v ≡ true → shown_of (pairs_of v) (map read_back ls) ≡ shown_of (pairs_of v) values
      shown h v wired =
          shown-same end (map read_back ls) values
          (λ i k. ap (λ (us : List ℕ). get_or (map read_back us) i 0) lines_left
          ∙ read_at net rails holds place count lines (count_of net rails given.driven) given.from given.upto given.room
          (driven-bits p.contacts rails given.driven) i (omega (arith, out)))
          (pair_at v 0) (pairs_of v)
          (λ j m. rw (get_or-pairs v j (pair_at v 0) (omega (arith, length_pairs v)))
          (pairs-at end v wired j (omega (arith, length_pairs v))))

      pub whole : {q : ℕ} {ps : List ℕ} → q ≡ to → to ≡ end →
          ps ≡ over (shown_of (pairs_of p.outputs.now) (map read_back ls) ++ shown_of (pairs_of p.lamp.now) (map read_back ls)) pairs → StepLeaves 0 q ls ps
      whole e h w =
          leaves e
          (w ∙ ap₂ (λ (us ws : List ℕ). over (us ++ ws) pairs) (shown h p.outputs.now (outputs-sound _ _ _ _ s)) (shown h p.lamp.now (lamp-sound _ _ _ _ s))
          ∙ sym (ap (λ (b : Bool). cond b (over (shown_by net values) pairs) pairs)
          (eq-eqb (min (place + count) (line_count net)) (line_count net) (omega (arith, out, count-is)))))

-- A netlist that is refused.
module _ (file rails holds : List ℕ) (place count : ℕ) (lines pairs : List ℕ) where
  refused : (k : ℕ) → step_refusal file rails holds place (length lines) (length pairs) ≡ suc k →
      record { refusal = suc k; place = 0; lines = lines; pairs = pairs } ≡ step_of file rails holds place count lines pairs
  unfolding step_of
  refused k e = rw e refl

  pub unread : (r : Refusal) → number_of r ≡ netlist_refusal file →
      record { refusal = number_of r; place = 0; lines = lines; pairs = pairs } ≡ step_of file rails holds place count lines pairs
  unfolding step_refusal
  unread r e =
      let above = above_zero r in
      rw above.1 (refused above.0 (first-no _ _ (λ z. not_zero r (e ∙ z)) ∙ sym e ∙ above.1))
