-- `row::ends_at` meets its contract, by the step at the place.
use mathlib.Core.Path.{sym, ◌∙◌}
use Rattle.files.proofs.Taking.{ends-here, goes_on}
use Rattle.files.proofs.row.ends_at.Goals as goal

pub returns-in_default : goal.returns-in_default
returns-in_default c = goes_on _ _ _ (sym c.next.ensures) c.in_default.not-End

pub returns-in-End : goal.returns-in-End
returns-in-End c = ends-here _ _ (sym c.next.ensures ∙ c.in-End.is)
