-- `row::put_decimal` meets its contract: six stores.
use Rattle.sheet.proofs.Columns.{sets-signs}
use Rattle.sheet.proofs.row.put_decimal.Goals as goal

pub returns : goal.returns
returns c =
    let a = c.args in
    rw (c.sign.ensures, c.sign-2.ensures, c.sign-3.ensures, c.sign-4.ensures)
    (sets-signs a.text.now a.at a.x a.behind)
