-- `service::check` meets its contract: each return is the case of `checked_of` that the table's refusal leads to.
use native.Mathlib.Omega.{arith}
use Rattle.std.proofs.lemmas.Result.{err_from_is_err_and}
use Rattle.synthesis.proofs.Services.{unrefused, check-refused, check-done}
use Rattle.synthesis.proofs.service.check.Goals as goal

pub returns-in_err-d : goal.returns-in_err-d
returns-in_err-d c =
    let p = err_from_is_err_and c.from_residual.result c.from_residual.ensures.1 in
    rw (p.1, p.2) (check-refused _ _ c.in_err-d.ensures.refusal)

pub most_gates-most-requires : goal.most_gates-most-requires
most_gates-most-requires c = let read = c.in_ok-d.ensures in (unrefused _ read.refusal read.diagram).sized

pub measure-requires : goal.measure-requires
measure-requires c =
    let read = c.in_ok-d.ensures in
    let u = unrefused _ read.refusal read.diagram in
    (u.sized, u.ranged, omega (arith, c.most_gates-most.ensures, c.if-most-le960), omega arith)

pub returns-then-most-le960 : goal.returns-then-most-le960
returns-then-most-le960 c =
    let read = c.in_ok-d.ensures in check-done (unrefused _ read.refusal read.diagram) c.measure.ensures

pub measure-requires-then-most-le2880 : goal.measure-requires-then-most-le2880
measure-requires-then-most-le2880 c =
    let read = c.in_ok-d.ensures in
    let u = unrefused _ read.refusal read.diagram in
    (u.sized, u.ranged, omega (arith, c.most_gates-most.ensures, c.if-most-le2880), omega arith)

pub returns-then-most-le2880 : goal.returns-then-most-le2880
returns-then-most-le2880 c =
    let read = c.in_ok-d.ensures in check-done (unrefused _ read.refusal read.diagram) c.measure-then-most-le2880.ensures

pub measure-requires-2 : goal.measure-requires-2
measure-requires-2 c =
    let read = c.in_ok-d.ensures in
    let u = unrefused _ read.refusal read.diagram in
    (u.sized, u.ranged, omega (arith, u.few), omega arith)

pub returns : goal.returns
returns c = let read = c.in_ok-d.ensures in check-done (unrefused _ read.refusal read.diagram) c.measure-2.ensures
