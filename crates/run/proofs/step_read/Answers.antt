-- `step_read` meets its contract: each refusal and either end are the case of `stepped_or` that the answers lead to.
use native.Mathlib.Omega.{arith}
use Prim.Native.Nat.{ℕ, ◌+◌, ◌/◌, ◌≤◌, min}
use mathlib.Core.Path.{refl, sym, ap, ◌∙◌}
use lib.ListN.{length}
use Rattle.netlist.specs.Netlist.{gate_line}
use Rattle.netlist.proofs.Lists.{length-gates, length_pairs}
use Rattle.wiring.proofs.Opened.{outputs-sound, lamp-sound}
use Rattle.simulation.proofs.Answers as answers
use Rattle.simulation.proofs.Whole.{Taken}
use Rattle.std.proofs.lemmas.Result.{err_from_is_err_and}
use Rattle.wiring.specs.declared.parts.Parts.{Parts}
use Rattle.wiring.specs.Inner.Read.{netlist_by}
use Rattle.run.proofs.Answers.{ready, pairs-within}
use Rattle.run.proofs.Outcomes.{unanswered, given, part, whole}
use Rattle.run.proofs.step_read.Goals.{In_ok-ask, else-to-end, then-to-end}
use Rattle.run.proofs.step_read.Goals as goal

pub returns-in_err-ask : goal.returns-in_err-ask
returns-in_err-ask c =
    let a = c.args in
    let p = err_from_is_err_and c.from_residual.result c.from_residual.ensures.1 in
    rw (p.1, p.2)
    (unanswered a.parts.now a.rails.now a.holds.now a.place a.count a.lines.now a.pairs.now c.in_err-ask.field-0.0 c.in_err-ask.ensures)

-- What a yes to all questions says.
module _ (c : In_ok-ask) where
  abbrev p : Parts
  p = c.args.parts.now

  abbrev end : ℕ
  end = gate_line p.contacts + length p.gates.now / 5

  taken : Taken (netlist_by p) c.args.rails.now c.args.holds.now c.args.place (length c.args.lines.now) (length c.args.pairs.now)
  taken =
      let a = c.args in
      given p a.rails.now a.holds.now a.place a.count a.lines.now a.pairs.now c.requires c.in_ok-ask.ensures

  room : end ≤ length c.args.lines.now
  room = omega (arith, taken.room, length-gates p.gates.now)

pub work_out-requires-clause-ready : goal.work_out-requires-clause-ready
work_out-requires-clause-ready c =
    let a = c.args in
    ready a.parts.now a.rails.now a.holds.now a.place (length a.lines.now) (length a.pairs.now) c.requires
    (taken (goal.at.work_out-requires-clause-ready c).In_ok-ask)

pub work_out-requires-clause-le_from : goal.work_out-requires-clause-le_from
work_out-requires-clause-le_from c =
    let t = taken (goal.at.work_out-requires-clause-le_from c).In_ok-ask in
    let to = c.min-to.ensures in
    let end = c.line_count-end.ensures in
    let l = answers.driven c.args.parts.now.contacts c.args.rails.now t.driven in
    let size = length-gates c.args.parts.now.gates.now in
    (t.from, omega (arith, t.upto), omega arith)

pub show-requires-clause-outputs_value : goal.show-requires-clause-outputs_value
show-requires-clause-outputs_value c =
    let here = (goal.at.show-requires-clause-outputs_value c).In_ok-ask in
    let parts = c.args.parts.now in
    let kept = c.work_out.auto.lines in (
      pairs-within (end here) _ parts.outputs.now (omega (arith, room here)) (outputs-sound _ _ _ _ c.requires),
      pairs-within (end here) _ parts.lamp.now (omega (arith, room here)) (lamp-sound _ _ _ _ c.requires),
    )

pub show-requires-clause-lamp_in_bounds : goal.show-requires-clause-lamp_in_bounds
show-requires-clause-lamp_in_bounds c =
    let parts = c.args.parts.now in
    omega
    (arith, (taken (goal.at.show-requires-clause-lamp_in_bounds c).In_ok-ask).paired, length_pairs parts.outputs.now, length_pairs parts.lamp.now)

pub returns : goal.returns
returns c =
    let a = c.args in
    let yes = c.in_ok-ask.ensures in
    let worked = c.work_out.ensures in
    let to = c.min-to.ensures ∙ ap (min (c.args.place + c.args.count)) c.line_count-end.ensures in
    elim c.if-to-end.branch [
      | then-to-end w ↦
          whole a.parts.now a.rails.now a.holds.now a.place a.count a.lines.now a.pairs.now c.requires yes to worked refl (w.if-to-end.true ∙ c.line_count-end.ensures) (w.pairs-is ∙ w.show.ensures)
      | else-to-end w ↦
          part a.parts.now a.rails.now a.holds.now a.place a.count a.lines.now a.pairs.now c.requires yes to worked refl (λ e. w.if-to-end.false (e ∙ sym c.line_count-end.ensures)) w.pairs-is
    ]
