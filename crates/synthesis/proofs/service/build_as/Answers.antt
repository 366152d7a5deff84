-- `service::build_as` meets its contract: each return is the case of `writing_of` that the table's refusal leads to.
use native.Mathlib.Omega.{arith}
use Rattle.std.proofs.lemmas.Result.{err_from_is_err_and}
use Rattle.synthesis.proofs.FilesWritten.{with-few}
use Rattle.synthesis.proofs.Services.{unrefused, build-refused, build-done}
use Rattle.synthesis.proofs.service.build_as.Goals as goal

pub returns-in_err-d : goal.returns-in_err-d
returns-in_err-d c =
    let p = err_from_is_err_and c.from_residual.result c.from_residual.ensures.1 in
    rw (p.1, p.2) (build-refused _ c.args.lamp _ _ c.in_err-d.ensures.refusal)

pub most_gates-most-requires : goal.most_gates-most-requires
most_gates-most-requires c = let read = c.in_ok-d.ensures in (unrefused _ read.refusal read.diagram).sized

pub write-requires : goal.write-requires
write-requires c =
    let read = c.in_ok-d.ensures in
    let u = unrefused _ read.refusal read.diagram in
    (u.sized, u.ranged, omega (arith, with-few c.args.lamp _ u.sized, c.most_gates-most.ensures, c.if-most-le960), omega arith)

pub returns-then-most-le960 : goal.returns-then-most-le960
returns-then-most-le960 c =
    let read = c.in_ok-d.ensures in build-done (unrefused _ read.refusal read.diagram) c.args.lamp _ c.write.ensures

pub write-requires-then-most-le2880 : goal.write-requires-then-most-le2880
write-requires-then-most-le2880 c =
    let read = c.in_ok-d.ensures in
    let u = unrefused _ read.refusal read.diagram in
    (u.sized, u.ranged, omega (arith, with-few c.args.lamp _ u.sized, c.most_gates-most.ensures, c.if-most-le2880), omega arith)

pub returns-then-most-le2880 : goal.returns-then-most-le2880
returns-then-most-le2880 c =
    let read = c.in_ok-d.ensures in
    build-done (unrefused _ read.refusal read.diagram) c.args.lamp _ c.write-then-most-le2880.ensures

pub write-requires-2 : goal.write-requires-2
write-requires-2 c =
    let read = c.in_ok-d.ensures in
    let u = unrefused _ read.refusal read.diagram in
    (u.sized, u.ranged, omega (arith, with-few c.args.lamp _ u.sized, u.few), omega arith)

pub returns : goal.returns
returns c =
    let read = c.in_ok-d.ensures in build-done (unrefused _ read.refusal read.diagram) c.args.lamp _ c.write-2.ensures
