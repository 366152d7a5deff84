-- `fit::count_outputs` meets its contract: each answer is what the test before it makes of question 3.
use Prim.Native.Nat.{ℕ}
use mathlib.Core.Path.{sym, ap, ◌∙◌}
use mathlib.Core.Bool.{true, false}
use mathlib.Core.List.{List}
use lib.ListN.{length}
use Rattle.std.specs.Prelude.{Some}
use Rattle.table.proofs.Fits.{outputs-by}
use Rattle.table.proofs.fit.count_outputs.Goals as goal

pub returns-then-not-has_parts : goal.returns-then-not-has_parts
returns-then-not-has_parts c = outputs-by _ false (sym c.has_parts.ensures ∙ c.if-not-has_parts.true)

pub returns : goal.returns
returns c =
    ap (λ (v : List ℕ). Some (length v)) c.value.ensures
    ∙ outputs-by _ true (sym c.has_parts.ensures ∙ c.if-not-has_parts.false)
