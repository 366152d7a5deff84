-- `row::take` meets its contract, by the step at the place.
use mathlib.Core.Path.{sym, ◌∙◌}
use Rattle.fields.proofs.Steps.{ended, walk}
use Rattle.files.proofs.row.take.Goals as goal

pub returns-in_default : goal.returns-in_default
returns-in_default c = ended _ _ _ (sym c.next.ensures) c.in_default.not-Next

pub returns : goal.returns
returns c = walk _ _ (sym c.next.ensures ∙ c.in-Next.is)
