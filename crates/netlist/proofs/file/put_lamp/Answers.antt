-- `file::put_lamp` meets its contract: no bytes have no field.
use borrow.Author.Tests.{eqb-true, eqb-false}
use native.Mathlib.Omega.{arith}
use mathlib.Core.Path.{◌≡◌, sym, ◌∙◌}
use lib.ListN.{length}
use Rattle.netlist.proofs.Written.{lamp-longer, none_written, lamp-written}
use Rattle.netlist.proofs.file.put_lamp.Goals.{Else-is_empty}
use Rattle.netlist.proofs.file.put_lamp.Goals as goal

some : (c : Else-is_empty) → length c.args.lamp.now ≡ 0 → ⊥
some c = eqb-false _ _ (sym c.is_empty.ensures ∙ c.if-is_empty.false)

pub returns-then-is_empty : goal.returns-then-is_empty
returns-then-is_empty c =
    none_written c.args.file.now c.args.at c.args.lamp.now (eqb-true _ _ (sym c.is_empty.ensures ∙ c.if-is_empty.true))

pub put_field-requires : goal.put_field-requires
put_field-requires c =
    let longer = lamp-longer (length c.args.lamp.now) (some (goal.at.put_field-requires c).Else-is_empty) in
    omega (arith, c.requires, longer)

pub returns : goal.returns
returns c =
    let args = c.args in
    lamp-written args.file.now args.at args.lamp.now (omega (arith, some (goal.at.returns c).Else-is_empty)) c.put_field.ensures
