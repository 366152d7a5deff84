-- `lines::work_out` meets its contract: the constants, then the lines from one to another.
use native.Mathlib.Omega.{arith}
use Rattle.netlist.specs.Netlist.{holds_of}
use Rattle.evaluation.proofs.Reading.{stepped-over}
use Rattle.evaluation.proofs.lines.work_out.Goals as goal

pub returns : goal.returns
returns c =
    let a = c.args in
    let p = c.requires in
    stepped-over (holds_of a.holds.now) a.rails.now a.gates.now a.from a.to a.lines.now p.ready.bits p.le_from.0
    (omega (arith, p.le_from.1, p.le_from.2, p.ready.fits)) c.put_lines.ensures
