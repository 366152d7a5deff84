-- `form::ask_form` meets its contract: each answer is the case that the answers before it lead to.
use native.Mathlib.Omega.{arith}
use mathlib.Core.Path.{◌≡◌, refl, sym, ap, ap₂, ◌∙◌}
use mathlib.Core.Bool.{Bool, not, ◌||◌}
use mathlib.Core.List.{List}
use Prim.Native.Nat.{ℕ}
use Rattle.std.specs.Prelude.{Option, Some, None}
use Rattle.fields.specs.declared.Field.{Field}
use Rattle.fields.specs.Fields.{Item, fields_of, value_in}
use Rattle.files.specs.Header.{contacts_in, has_parts}
use Rattle.files.specs.Inner.Row.{item_by}
use Rattle.files.proofs.Counts.{contacts-first}
use Rattle.files.proofs.WholeParts.{parted}
use Rattle.wiring.specs.Questions.{form_of}
use Rattle.wiring.specs.Inner.Read.{contacts_by}
use Rattle.wiring.proofs.Accepted.{well-formed}
use Rattle.wiring.proofs.Forms.{uncounted, gates-misparted, outputs-misparted, unlit, unended, formed}
use Rattle.wiring.proofs.form.ask_form.Goals.{After-lamp_of}
use Rattle.wiring.proofs.form.ask_form.Goals as goal

-- A field of the row, once it is known whether it is there.
of_row : (file : List ℕ) {f : Option Field} {i : Item} (g : Option Field) → item_by file f ≡ i → f ≡ g → item_by file g ≡ i
of_row file g at e = sym (ap (item_by file) e) ∙ at

pub returns-in_err-row-clause-formed : goal.returns-in_err-row-clause-formed
unfolding contacts_in
returns-in_err-row-clause-formed c =
    let none = of_row c.args.file.now None c.first_four-row.ensures.first (c.in_err-row.was) in
    ap contacts_by c.from_residual.ensures ∙ uncounted _ (sym (contacts-first (fields_of c.args.file.now).items refl none))

pub returns-in_err-n-clause-formed : goal.returns-in_err-n-clause-formed
returns-in_err-n-clause-formed c =
    let first = of_row c.args.file.now (Some c.in_ok-row.field-0) c.first_four-row.ensures.first (c.in_ok-row.was) in
    ap contacts_by c.from_residual-in_err-n.ensures
    ∙ uncounted _ (sym (contacts-first _ c.count_contacts.ensures first) ∙ c.in_err-n.was)

pub returns-in_err-gates-clause-formed : goal.returns-in_err-gates-clause-formed
returns-in_err-gates-clause-formed c =
    let none = of_row c.args.file.now None c.first_four-row.ensures.second (c.in_err-gates.was) in
    ap contacts_by c.from_residual-in_err-gates.ensures ∙ gates-misparted _ (ap (has_parts 4 5 0 10602) (sym none))

pub returns-then-not-has_parts-clause-formed : goal.returns-then-not-has_parts-clause-formed
returns-then-not-has_parts-clause-formed c =
    let gates = of_row c.args.file.now (Some c.in_ok-gates.gates) c.first_four-row.ensures.second (c.in_ok-gates.was) in
    gates-misparted _ (parted 4 5 0 10602 c.has_parts.ensures (omega arith) gates ∙ c.if-not-has_parts.true)

pub returns-in_err-outputs-clause-formed : goal.returns-in_err-outputs-clause-formed
returns-in_err-outputs-clause-formed c =
    let none = of_row c.args.file.now None c.first_four-row.ensures.third (c.in_err-outputs.was) in
    ap contacts_by c.from_residual-in_err-outputs.ensures ∙ outputs-misparted _ (ap (has_parts 5 4 1 8) (sym none))

pub returns-then-not-has_parts-2-clause-formed : goal.returns-then-not-has_parts-2-clause-formed
returns-then-not-has_parts-2-clause-formed c =
    let outputs = of_row c.args.file.now (Some c.in_ok-outputs.outputs) c.first_four-row.ensures.third (c.in_ok-outputs.was) in
    outputs-misparted _ (parted 5 4 1 8 c.has_parts-2.ensures (omega arith) outputs ∙ c.if-not-has_parts-2.true)

abbrev lamp_in : Bool → Item → Bool
lamp_in four i = not four || has_parts 6 4 1 1 i

pub returns-then-not-may_be_lamp-clause-formed : goal.returns-then-not-may_be_lamp-clause-formed
returns-then-not-may_be_lamp-clause-formed c =
    let row = c.first_four-row.ensures in
    unlit _ (sym (c.may_be_lamp.ensures ∙ ap₂ lamp_in row.four row.fourth) ∙ c.if-not-may_be_lamp.true)

pub returns-then-not-row-clause-formed : goal.returns-then-not-row-clause-formed
returns-then-not-row-clause-formed c = unended _ (sym c.first_four-row.ensures.ends ∙ c.if-not-row.true)

yes : (c : After-lamp_of) → Some c.in_ok-n.n ≡ form_of (fields_of c.args.file.now)
yes c =
    let file = c.args.file.now in
    let row = c.first_four-row.ensures in
    let first = of_row file (Some c.in_ok-row.field-0) row.first (c.in_ok-row.was) in
    let gates = of_row file (Some c.in_ok-gates.gates) row.second (c.in_ok-gates.was) in
    let outputs = of_row file (Some c.in_ok-outputs.outputs) row.third (c.in_ok-outputs.was) in
    formed _ (sym (contacts-first _ c.count_contacts.ensures first) ∙ c.in_ok-n.was)
    (parted 4 5 0 10602 c.has_parts.ensures (omega arith) gates ∙ c.if-not-has_parts.false)
    (parted 5 4 1 8 c.has_parts-2.ensures (omega arith) outputs ∙ c.if-not-has_parts-2.false)
    (sym (c.may_be_lamp.ensures ∙ ap₂ lamp_in row.four row.fourth) ∙ c.if-not-may_be_lamp.false)
    (sym row.ends ∙ c.if-not-row.false)

-- The parts are the values of the file's second, third and fourth field.
module _ (c : After-lamp_of) where
  abbrev is : List Item
  is = (fields_of c.args.file.now).items

  gates-are : c.value.result.now ≡ value_in is 1
  gates-are =
      let gates = of_row c.args.file.now (Some c.in_ok-gates.gates) c.first_four-row.ensures.second c.in_ok-gates.was in
      c.value.ensures ∙ ap (λ (i : Item). i.value) gates

  outputs-are : c.value-2.result.now ≡ value_in is 2
  outputs-are =
      let outputs = of_row c.args.file.now (Some c.in_ok-outputs.outputs) c.first_four-row.ensures.third c.in_ok-outputs.was in
      c.value-2.ensures ∙ ap (λ (i : Item). i.value) outputs

  lamp-is : c.lamp_of.result.now ≡ value_in is 3
  lamp-is = c.lamp_of.ensures ∙ ap (λ (i : Item). i.value) c.first_four-row.ensures.fourth

pub invariant_of-result : goal.invariant_of-result
invariant_of-result c =
    let here = (goal.at.invariant_of-result c).After-lamp_of in
    let form = well-formed _ _ (sym (yes here)) in
    record {
      few_contacts = form.most;
      few_gates = rw (gates-are here) form.gates.most;
      few_outputs = rw (outputs-are here) form.pairs.most;
      one_lamp = rw (lamp-is here) form.lamp.most;
    }

pub returns-clause-formed : goal.returns-clause-formed
returns-clause-formed c = yes (goal.at.returns-clause-formed c).After-lamp_of

pub returns-clause-parts : goal.returns-clause-parts
returns-clause-parts c =
    let here = (goal.at.returns-clause-parts c).After-lamp_of in
    record { contacts = (well-formed _ _ (sym (yes here))).contacts; gates = gates-are here; outputs = outputs-are here; lamp = lamp-is here }
