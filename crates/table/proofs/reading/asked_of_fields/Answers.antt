-- `reading::asked_of_fields` meets its contract: each return is the number that the answers before it make first.
use mathlib.Core.Path.{◌≡◌, refl, sym, ap, ◌∙◌}
use mathlib.Core.List.{List}
use lib.ListN.{drop}
use Rattle.std.specs.Prelude.{Some, None}
use Rattle.fields.specs.declared.Framing.TheVariants.{Whole, Broken}
use Rattle.fields.specs.Fields.{Item, fields_of}
use Rattle.fields.specs.Refusals.{first_no}
use Rattle.files.specs.Header.{contacts_of}
use Rattle.files.proofs.Heads.{counted}
use Rattle.table.specs.declared.fit.Levels.{Levels}
use Rattle.table.specs.declared.fit.Levels.TheVariants.{Given, Lacking}
use Rattle.table.specs.Table.{levels_in}
use Rattle.table.proofs.Fits.{contacts-missing, contacts-taken, outputs-missing, outputs-taken, levels-left}
use Rattle.table.proofs.Refusals.{fields-by}
use Rattle.table.proofs.reading.asked_of_fields.Goals.{After-ask_levels}
use Rattle.table.proofs.reading.asked_of_fields.Goals as goal

-- Question 4, by its answer on the fields past the second.
fourth : (k : After-ask_levels) (l : Levels) → k.ask_levels.result ≡ l →
    levels_in (contacts_of (fields_of k.args.file.now).items) (drop 2 (fields_of k.args.file.now).items) ≡ l
fourth k l e =
    let is = (fields_of k.args.file.now).items in
    let left = levels-left _ _ _ k.in-Some.ensures _ _ k.in-Some-take.ensures in
    let taken = contacts-taken _ _ _ k.in-Some.ensures k.count_contacts.ensures ∙ k.in-Some-count_contacts.is in
    ap (λ (l : List Item). levels_in (contacts_of l) (drop 2 is)) (counted is _ taken).split
    ∙ ap (levels_in k.in-Some-count_contacts.n) (sym left) ∙ sym k.ask_levels.ensures ∙ e

pub returns-in_default : goal.returns-in_default
unfolding first_no
returns-in_default c = fields-by _ Broken _ _ _ (sym c.whole.ensures ∙ c.in_default.is) refl refl refl

pub returns-in_default-take : goal.returns-in_default-take
unfolding first_no
returns-in_default-take c =
    fields-by _ Whole None _ _ (sym c.whole.ensures ∙ c.in-Whole.is) (contacts-missing _ c.in_default-take.ensures) refl refl

pub returns-in_default-count_contacts : goal.returns-in_default-count_contacts
unfolding first_no
returns-in_default-count_contacts c =
    fields-by _ Whole None _ _ (sym c.whole.ensures ∙ c.in-Whole.is)
    (contacts-taken _ _ _ c.in-Some.ensures c.count_contacts.ensures ∙ c.in_default-count_contacts.is) refl refl

pub returns-in_default-take-2 : goal.returns-in_default-take-2
unfolding first_no
returns-in_default-take-2 c =
    fields-by _ Whole (Some _) None _ (sym c.whole.ensures ∙ c.in-Whole.is)
    (contacts-taken _ _ _ c.in-Some.ensures c.count_contacts.ensures ∙ c.in-Some-count_contacts.is)
    (outputs-missing _ _ _ c.in-Some.ensures c.in_default-take-2.ensures) refl

pub returns-in_default-count_outputs : goal.returns-in_default-count_outputs
unfolding first_no
returns-in_default-count_outputs c =
    fields-by _ Whole (Some _) None _ (sym c.whole.ensures ∙ c.in-Whole.is)
    (contacts-taken _ _ _ c.in-Some.ensures c.count_contacts.ensures ∙ c.in-Some-count_contacts.is)
    (outputs-taken _ _ _ c.in-Some.ensures _ _ c.in-Some-take.ensures c.count_outputs.ensures ∙ c.in_default-count_outputs.is) refl

pub returns-in_default-ask_levels : goal.returns-in_default-ask_levels
unfolding first_no
returns-in_default-ask_levels c =
    fields-by _ Whole (Some _) (Some _) Lacking (sym c.whole.ensures ∙ c.in-Whole.is)
    (contacts-taken _ _ _ c.in-Some.ensures c.count_contacts.ensures ∙ c.in-Some-count_contacts.is)
    (outputs-taken _ _ _ c.in-Some.ensures _ _ c.in-Some-take.ensures c.count_outputs.ensures ∙ c.in-Some-count_outputs.is)
    (fourth (goal.at.returns-in_default-ask_levels c).After-ask_levels Lacking c.in_default-ask_levels.is)

pub returns : goal.returns
unfolding first_no
returns c =
    fields-by _ Whole (Some _) (Some _) Given (sym c.whole.ensures ∙ c.in-Whole.is)
    (contacts-taken _ _ _ c.in-Some.ensures c.count_contacts.ensures ∙ c.in-Some-count_contacts.is)
    (outputs-taken _ _ _ c.in-Some.ensures _ _ c.in-Some-take.ensures c.count_outputs.ensures ∙ c.in-Some-count_outputs.is)
    (fourth (goal.at.returns c).After-ask_levels Given c.in-Given.is)
