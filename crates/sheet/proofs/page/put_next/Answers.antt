-- `page::put_next` meets its contract: the row stands below its heading.
use Rattle.sheet.proofs.Pages.{next-written}
use Rattle.sheet.proofs.page.put_next.Goals as goal

pub returns : goal.returns
returns c =
    let a = c.args in
    next-written a.text.now a.before a.row c.put_heading_after.ensures c.put_row.ensures
