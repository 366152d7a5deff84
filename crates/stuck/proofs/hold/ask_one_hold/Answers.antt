-- `hold::ask_one_hold` meets its contract: the length's test, then question 14.
use borrow.Author.Tests.{eq-eqb, ne_eqb}
use native.Mathlib.Omega.{arith}
use mathlib.Core.Path.{◌∙◌}
use lib.ListN.{length}
use Rattle.stuck.proofs.hold.ask_one_hold.Goals as goal

pub returns-then-hold-ne3 : goal.returns-then-hold-ne3
returns-then-hold-ne3 c = simp (ne_eqb (length c.args.hold.now) 3 (omega arith))

pub returns : goal.returns
returns c = c.ask_holds.ensures ∙ simp (eq-eqb (length c.args.hold.now) 3 (omega arith))
