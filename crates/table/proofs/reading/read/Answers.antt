-- `reading::read` meets its contract: questions 1 to 4 passed make the diagram one that keeps the limits.
use mathlib.Core.Path.{sym, ap, ◌∙◌}
use Rattle.std.proofs.lemmas.Result.{err_from_is_err_and}
use Rattle.diagram.specs.declared.Diagram.{Diagram}
use Rattle.table.specs.Table.{diagram_refusal}
use Rattle.table.proofs.Tables.{fits, refused-fields, refused-diagram}
use Rattle.table.proofs.reading.read.Goals as goal

pub returns-in_err-asked_of_fields-clause-refusal : goal.returns-in_err-asked_of_fields-clause-refusal
returns-in_err-asked_of_fields-clause-refusal c =
    let p = err_from_is_err_and c.from_residual.result c.from_residual.ensures.1 in
    rw (p.1, p.2) (refused-fields _ _ c.in_err-asked_of_fields.ensures)

pub asked_of_diagram-requires : goal.asked_of_diagram-requires
asked_of_diagram-requires c = rw c.diagram-d.ensures (fits _ (sym c.in_ok-asked_of_fields.ensures))

pub returns-in_err-asked_of_diagram-clause-refusal : goal.returns-in_err-asked_of_diagram-clause-refusal
returns-in_err-asked_of_diagram-clause-refusal c =
    let p = err_from_is_err_and c.from_residual-in_err-asked_of_diagram.result c.from_residual-in_err-asked_of_diagram.ensures.1 in
    let e = ap (λ (d : Diagram). diagram_refusal d) c.diagram-d.ensures in
    rw (p.1, p.2) (refused-diagram _ _ c.in_ok-asked_of_fields.ensures (c.in_err-asked_of_diagram.ensures ∙ e))

pub returns-clause-refusal : goal.returns-clause-refusal
returns-clause-refusal c =
    let e = ap (λ (d : Diagram). diagram_refusal d) c.diagram-d.ensures in
    refused-diagram _ _ c.in_ok-asked_of_fields.ensures (c.in_ok-asked_of_diagram.ensures ∙ e)
