-- `row::first_four` meets its contract: each field is past those before it.
use Rattle.files.proofs.Taking.{opened-by}
use Rattle.files.proofs.row.first_four.Goals as goal

pub returns : goal.returns
returns c = opened-by _ c.walk-first.ensures c.walk-second.ensures c.walk-third.ensures c.walk-fourth.ensures c.ends_at.ensures
