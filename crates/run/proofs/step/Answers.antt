-- `step` meets its contract: the netlist in the file is refused, or its step is the file's.
use mathlib.Core.Path.{sym, ◌∙◌}
use Rattle.std.proofs.lemmas.Result.{err_from_is_err_and}
use Rattle.wiring.proofs.Opened.{opened, parts-sound}
use Rattle.run.proofs.Outcomes.{unread, of_file}
use Rattle.run.proofs.step.Goals as goal

pub returns-in_err-parts : goal.returns-in_err-parts
returns-in_err-parts c =
    let a = c.args in
    let p = err_from_is_err_and c.from_residual.result c.from_residual.ensures.1 in
    rw (p.1, p.2) (unread a.netlist.now a.rails.now a.holds.now a.place a.count a.lines.now a.pairs.now c.in_err-parts.field-0.0 c.in_err-parts.ensures.refusal)

pub step_read-requires : goal.step_read-requires
step_read-requires c =
    let read = c.in_ok-parts.ensures in
    parts-sound (opened c.args.netlist.now read.parts (sym read.refusal))

pub returns : goal.returns
returns c =
    let read = c.in_ok-parts.ensures in
    c.step_read.ensures ∙ of_file _ _ _ _ _ _ _ (sym read.refusal) read.parts
