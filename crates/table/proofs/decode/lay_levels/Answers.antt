-- `decode::lay_levels` meets its contract. The loop's invariant: the arrays hold the levels passed, and the cursor stands at what is left.
use native.Mathlib.Omega.{arith}
use Prim.Native.Nat.{◌+◌, ◌*◌, ◌-◌}
use mathlib.Core.Path.{sym, ◌∙◌}
use Rattle.fields.specs.Fields.{fields_of}
use Rattle.fields.proofs.Steps.{items-next, ended}
use Rattle.table.proofs.Decoded.{length-edges, decoded-none, decoded-one, none_left, none-fits}
use Rattle.table.proofs.Fits.{skipped}
use Rattle.table.proofs.Padded.{put_mid-front}
use Rattle.table.proofs.decode.lay_levels.Goals as goal

pub loop-level-init : goal.loop-level-init
loop-level-init c =
    let none = decoded-none (fields_of c.args.file.now).items (skipped _ 2 c.new.ensures c.skip-cursor.ensures) in
    (omega arith, rw (c.requires.0, c.requires.1) none)

pub returns-in_default : goal.returns-in_default
returns-in_default c =
    let left = none_left c.loop-level.invariant.1 (ended _ _ _ (sym c.next.ensures) c.in_default.not-Next) in
    record { widths_after = left.0; edges_after = left.1 }

pub loop-level-preserved : goal.loop-level-preserved
loop-level-preserved c =
    let next = items-next _ _ (sym c.next.ensures ∙ c.in-Next.is) in
    let s = decoded-one c.loop-level.invariant.1 c.loop-level-test.true next c.value-value.ensures in
    let edges = c.loop-level.edges in
    let at = c.loop-level.level * 16 in
    let laid = put_mid-front at 16 edges c.value-value.result.now (omega (arith, length-edges c.loop-level.invariant.1)) (at + 16 - at) (omega arith) c.put.ensures in
    (omega arith, rw laid s)

pub returns : goal.returns
returns c =
    let none = none-fits c.loop-level.invariant.1 c.loop-level-test.false in
    record { widths_after = none.0; edges_after = none.1 }
