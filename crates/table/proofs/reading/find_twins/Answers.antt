-- `reading::find_twins` meets its contract: questions 1 to 4 passed make the diagram one that keeps the limits.
use mathlib.Core.Path.{sym, ap, ◌∙◌}
use Rattle.diagram.specs.declared.Diagram.{Diagram}
use Rattle.twins.specs.Twins.{comparison_of}
use Rattle.table.proofs.Tables.{fits, bare-fit, bare-compared, comparison-none, comparison-made}
use Rattle.table.proofs.reading.find_twins.Goals as goal

pub find_twins-requires : goal.find_twins-requires
find_twins-requires c = rw c.levels.ensures (bare-fit _ (fits _ (sym c.in-Ok.ensures)).0)

pub returns-in-Ok : goal.returns-in-Ok
returns-in-Ok c =
    c.find_twins.ensures ∙ ap (λ (d : Diagram). comparison_of d) c.levels.ensures ∙ bare-compared _ ∙ comparison-made _ c.in-Ok.ensures

pub returns-in-Err : goal.returns-in-Err
returns-in-Err c = comparison-none _ _ c.in-Err.ensures
