-- `reading::asked_of_diagram` meets its contract: each return is the number that the answers before it make first.
use mathlib.Core.Path.{refl, sym, ap, ◌∙◌}
use Rattle.std.specs.Prelude.{Option, Some, None}
use Rattle.fields.specs.Refusals.{first_no}
use Rattle.diagram.specs.declared.sound.Range.TheVariants.{Within, Outside}
use Rattle.diagram.specs.declared.sound.Numbering.TheVariants.{InTurn, OutOfTurn}
use Rattle.twins.specs.declared.Pair.{Pair}
use Rattle.twins.specs.declared.Comparison.{Comparison}
use Rattle.table.proofs.Refusals.{diagram-by}
use Rattle.table.proofs.reading.asked_of_diagram.Goals as goal

abbrev twins_in : Comparison → Option Pair
twins_in c = c.twins

pub returns-in_default : goal.returns-in_default
unfolding first_no
returns-in_default c = diagram-by _ Outside _ _ (sym c.ask_range.ensures ∙ c.in_default.is) refl refl

pub returns-in_default-twins : goal.returns-in_default-twins
unfolding first_no
returns-in_default-twins c =
    let range = sym c.ask_range.ensures ∙ c.in-Within.is in
    let twins = ap twins_in (sym c.find_twins.ensures) ∙ c.in_default-twins.is in
    diagram-by _ Within (Some _) _ range twins refl

pub returns-in_default-ask_numbering : goal.returns-in_default-ask_numbering
unfolding first_no
returns-in_default-ask_numbering c =
    let range = sym c.ask_range.ensures ∙ c.in-Within.is in
    let twins = ap twins_in (sym c.find_twins.ensures) ∙ c.in-None.is in
    diagram-by _ Within None OutOfTurn range twins (sym c.ask_numbering.ensures ∙ c.in_default-ask_numbering.is)

pub returns : goal.returns
unfolding first_no
returns c =
    let range = sym c.ask_range.ensures ∙ c.in-Within.is in
    let twins = ap twins_in (sym c.find_twins.ensures) ∙ c.in-None.is in
    diagram-by _ Within None InTurn range twins (sym c.ask_numbering.ensures ∙ c.in-InTurn.is)
