-- `run` meets its contract: an accepted netlist has fewer lines than the step is told.
use native.Mathlib.Omega.{arith}
use Prim.Native.Nat.{ℕ}
use mathlib.Core.List.{List}
use mathlib.Core.Path.{◌≡◌, sym, ap, ◌∙◌}
use Rattle.fields.proofs.Refusals.{first-yes}
use Rattle.std.proofs.lemmas.Result.{err_from_is_err_and}
use Rattle.wiring.proofs.Accepted.{accepted}
use Rattle.wiring.proofs.Opened.{opened, parts-sound}
use Rattle.simulation.specs.Service.{step_refusal, step_of, ran_by, run_of}
use Rattle.simulation.proofs.Whole.{one-step}
use Rattle.run.proofs.Outcomes.{unread, of_file}
use Rattle.run.proofs.run.Goals as goal

one : (file rails holds lines pairs : List ℕ) →
    ran_by (step_of file rails holds 2 4294967295 lines pairs) ≡ run_of file rails holds lines pairs
unfolding step_refusal
one file rails holds lines pairs =
    sym (one-step file rails holds lines pairs _ (λ e.
    let b = (accepted file (first-yes _ _ e).0).bounds in
    omega (arith, b.gates, b.most)))

pub returns-in_err-parts : goal.returns-in_err-parts
returns-in_err-parts c =
    let a = c.args in
    let p = err_from_is_err_and c.from_residual.result c.from_residual.ensures.1 in
    rw (p.1, p.2)
    (ap ran_by (unread a.netlist.now a.rails.now a.holds.now 2 4294967295 a.lines.now a.pairs.now c.in_err-parts.field-0.0 c.in_err-parts.ensures.refusal)
    ∙ one a.netlist.now a.rails.now a.holds.now a.lines.now a.pairs.now)

pub step_read-requires : goal.step_read-requires
step_read-requires c =
    let read = c.in_ok-parts.ensures in
    parts-sound (opened c.args.netlist.now read.parts (sym read.refusal))

pub returns-in_err-step_read : goal.returns-in_err-step_read
returns-in_err-step_read c =
    let a = c.args in
    let read = c.in_ok-parts.ensures in
    let p = err_from_is_err_and c.from_residual-in_err-step_read.result c.from_residual-in_err-step_read.ensures.1 in
    rw (p.1, p.2)
    (ap ran_by (c.in_err-step_read.ensures ∙ of_file _ _ _ _ _ _ _ (sym read.refusal) read.parts)
    ∙ one a.netlist.now a.rails.now a.holds.now a.lines.now a.pairs.now)

pub returns : goal.returns
returns c =
    let a = c.args in
    let read = c.in_ok-parts.ensures in
    ap ran_by (c.in_ok-step_read.ensures ∙ of_file _ _ _ _ _ _ _ (sym read.refusal) read.parts)
    ∙ one a.netlist.now a.rails.now a.holds.now a.lines.now a.pairs.now
