-- `row::put_row` meets its contract: its four parts stand one after another.
use Prim.Native.Nat.{◌+◌}
use mathlib.Core.Path.{ap, ◌∙◌}
use lib.Seq.{sets}
use Rattle.sheet.proofs.Rows.{row_written}
use Rattle.sheet.proofs.row.put_row.Goals as goal

pub returns : goal.returns
returns c =
    let a = c.args in
    row_written a.text.now a.at _ _ _ _ c.put_decimal.ensures
    (c.copy.ensures ∙ ap (sets c.put_decimal.new.text (a.at + 6)) c.text.ensures) c.put_decimal-2.ensures c.put_decimal-3.ensures
