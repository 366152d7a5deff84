-- `service::from_drawing` meets its contract: refused by question 16, or what writing the table of its truth tables' functions gives.
use mathlib.Core.Path.{sym, ◌∙◌}
use Rattle.truths.proofs.Asked.{opened}
use Rattle.truths.proofs.Outcomes.{malformed, tabled}
use Rattle.truths.proofs.service.from_drawing.Goals as goal

pub returns-in_default : goal.returns-in_default
returns-in_default c = malformed _ _ (sym c.in_default.ensures)

pub invariant_of-write_table : goal.invariant_of-write_table
invariant_of-write_table c = record { limited = (opened _ (sym c.in-Some.ensures)).limited-parts }

pub returns : goal.returns
returns c = c.write_table.ensures ∙ tabled _ _ (opened _ (sym c.in-Some.ensures))
