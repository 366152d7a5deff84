-- `form::ask_form` meets its contract: each answer is the case that the answers before it lead to.
use mathlib.Core.Path.{◌≡◌, sym, ap, ◌∙◌}
use Rattle.std.specs.Prelude.{Some}
use Rattle.std.specs.Option.{option_map}
use Rattle.fields.specs.Fields.{Fields, fields_of, item_in}
use Rattle.files.specs.Header.{contacts_in}
use Rattle.files.specs.Inner.Row.{behind}
use Rattle.files.proofs.Heads.{counted}
use Rattle.rulesheet.specs.Rules.{form_number}
use Rattle.rulesheet.specs.Inner.Form.{outputs_counted, rules_counted, values_of}
use Rattle.rulesheet.specs.Inner.Sheet.{counts_of}
use Rattle.rulesheet.proofs.Forms as forms
use Rattle.rulesheet.proofs.form.ask_form.Goals.{In_ok-outputs, In_ok-count}
use Rattle.rulesheet.proofs.form.ask_form.Goals as goal

abbrev fs : In_ok-outputs → Fields
fs c = fields_of c.args.file.now

-- The counts that the first two fields give.
contacts : (c : In_ok-outputs) → contacts_in (fs c).items ≡ Some c.in_ok-contacts.contacts
contacts c = sym (forms.contacts-found c.args.file.now _ _ c.in_ok-first.ensures c.in_ok-contacts.ensures)

outputs : (c : In_ok-outputs) → Some c.in_ok-outputs.outputs ≡ outputs_counted (item_in (fs c).items 1)
outputs c = forms.outputs-found c.args.file.now _ _ c.in_ok-first.ensures _ _ c.in_ok-second.ensures c.in_ok-outputs.ensures

rules : (c : In_ok-count) → Some c.in_ok-count.count ≡ rules_counted c.in_ok-contacts.contacts c.in_ok-outputs.outputs (behind 2 (fields_of c.args.file.now))
rules c = forms.rules-found c.args.file.now _ _ c.in_ok-first.ensures _ _ c.in_ok-second.ensures _ _ c.in_ok-count.ensures

pub returns-in_err-first-clause-counts : goal.returns-in_err-first-clause-counts
returns-in_err-first-clause-counts c =
    ap (option_map counts_of) c.from_residual.ensures ∙ forms.no-first c.args.file.now c.in_err-first.ensures

pub returns-in_err-contacts-clause-counts : goal.returns-in_err-contacts-clause-counts
returns-in_err-contacts-clause-counts c =
    ap (option_map counts_of) c.from_residual-in_err-contacts.ensures
    ∙ forms.uncounted c.args.file.now (sym (forms.contacts-found c.args.file.now _ _ c.in_ok-first.ensures c.in_err-contacts.ensures))

pub returns-in_err-second-clause-counts : goal.returns-in_err-second-clause-counts
returns-in_err-second-clause-counts c =
    ap (option_map counts_of) c.from_residual-in_err-second.ensures
    ∙ forms.no-second c.args.file.now _ (forms.past-first c.args.file.now _ _ c.in_ok-first.ensures) c.in_err-second.ensures

pub returns-in_err-outputs-clause-counts : goal.returns-in_err-outputs-clause-counts
returns-in_err-outputs-clause-counts c =
    ap (option_map counts_of) c.from_residual-in_err-outputs.ensures
    ∙ forms.no-outputs c.args.file.now
    (forms.outputs-found c.args.file.now _ _ c.in_ok-first.ensures _ _ c.in_ok-second.ensures c.in_err-outputs.ensures)

pub count_rules-requires : goal.count_rules-requires
count_rules-requires c =
    let l = (goal.at.count_rules-requires c).In_ok-outputs in
    ((counted _ _ (contacts l)).high, forms.outputs-few (item_in (fs l).items 1) (outputs l))

pub returns-in_err-count-clause-counts : goal.returns-in_err-count-clause-counts
returns-in_err-count-clause-counts c =
    let l = (goal.at.returns-in_err-count-clause-counts c).In_ok-outputs in
    ap (option_map counts_of) c.from_residual-in_err-count.ensures
    ∙ forms.no-rules c.args.file.now (contacts l) (outputs l)
    (forms.rules-found c.args.file.now _ _ c.in_ok-first.ensures _ _ c.in_ok-second.ensures _ _ c.in_err-count.ensures)

pub invariant_of-result : goal.invariant_of-result
invariant_of-result c =
    let l = (goal.at.invariant_of-result c).In_ok-outputs in
    let r = rules (goal.at.invariant_of-result c).In_ok-count in
    record {
      formed = ap form_number (sym (forms.formed c.args.file.now (contacts l) (outputs l) r));
      counted = forms.counts-are c.args.file.now (contacts l) (outputs l) r;
      placed = ap (λ (fs : Fields). values_of fs.items) (forms.past-second c.args.file.now _ _ c.in_ok-first.ensures _ _ c.in_ok-second.ensures);
    }

pub returns-clause-counts : goal.returns-clause-counts
returns-clause-counts c =
    let l = (goal.at.returns-clause-counts c).In_ok-outputs in
    forms.formed c.args.file.now (contacts l) (outputs l) (rules (goal.at.returns-clause-counts c).In_ok-count)
