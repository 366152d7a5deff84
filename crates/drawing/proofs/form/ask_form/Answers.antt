-- `form::ask_form` meets its contract: each answer is the case that the answers before it lead to.
use native.Mathlib.Omega.{arith}
use mathlib.Core.Path.{◌≡◌, refl, sym, ap, ◌∙◌}
use Rattle.std.specs.Prelude.{Some, None}
use Rattle.fields.specs.Fields.{Item, fields_of}
use Rattle.files.specs.Header.{contacts_in, has_parts}
use Rattle.files.proofs.Counts.{contacts-first}
use Rattle.files.proofs.WholeParts.{parted as whole}
use Rattle.drawing.specs.Drawing.{drawing_of, drawing_by, is_drawing, parted}
use Rattle.drawing.proofs.Forms.{of_row, there, uncounted, first-misparted, second-misparted, too_many, unended, unsound, formed, parted-is}
use Rattle.drawing.proofs.form.ask_form.Goals.{then-is_some-via-then-is_some, then-is_some-via-else-is_some+then-not-row, After-value-2}
use Rattle.drawing.proofs.form.ask_form.Goals as goal

pub returns-in_err-row : goal.returns-in_err-row
unfolding contacts_in
returns-in_err-row c =
    let none = of_row c.args.file.now None c.first_four-row.ensures.first (c.in_err-row.was) in
    ap drawing_by c.from_residual.ensures ∙ uncounted _ (sym (contacts-first (fields_of c.args.file.now).items refl none))

pub returns-in_err-contacts : goal.returns-in_err-contacts
returns-in_err-contacts c =
    let first = of_row c.args.file.now (Some c.in_ok-row.field-0) c.first_four-row.ensures.first (c.in_ok-row.was) in
    ap drawing_by c.from_residual-in_err-contacts.ensures
    ∙ uncounted _ (sym (contacts-first _ c.count_contacts.ensures first) ∙ c.in_err-contacts.was)

pub returns-in_err-outputs : goal.returns-in_err-outputs
returns-in_err-outputs c =
    let none = of_row c.args.file.now None c.first_four-row.ensures.second (c.in_err-outputs.was) in
    ap drawing_by c.from_residual-in_err-outputs.ensures ∙ first-misparted _ (ap (has_parts 2 1 1 8) (sym none))

pub returns-then-not-has_parts : goal.returns-then-not-has_parts
returns-then-not-has_parts c =
    let outputs = of_row c.args.file.now (Some c.in_ok-outputs.outputs) c.first_four-row.ensures.second (c.in_ok-outputs.was) in
    first-misparted _ (whole 2 1 1 8 c.has_parts.ensures (omega arith) outputs ∙ c.if-not-has_parts.true)

pub returns-in_err-nodes : goal.returns-in_err-nodes
returns-in_err-nodes c =
    let none = of_row c.args.file.now None c.first_four-row.ensures.third (c.in_err-nodes.was) in
    ap drawing_by c.from_residual-in_err-nodes.ensures ∙ second-misparted _ (ap (has_parts 7 3 0 200) (sym none))

pub returns-then-not-has_parts-2 : goal.returns-then-not-has_parts-2
returns-then-not-has_parts-2 c =
    let nodes = of_row c.args.file.now (Some c.in_ok-nodes.nodes) c.first_four-row.ensures.third (c.in_ok-nodes.was) in
    second-misparted _ (whole 7 3 0 200 c.has_parts-2.ensures (omega arith) nodes ∙ c.if-not-has_parts-2.true)

pub returns-then-is_some : goal.returns-then-is_some
returns-then-is_some c =
    let row = c.first_four-row.ensures in
    elim c.then-is_some.branch [
      | then-is_some-via-then-is_some w ↦ too_many _ (sym row.four ∙ sym (there _) ∙ sym w.if-is_some.ensures)
      | then-is_some-via-else-is_some+then-not-row w ↦ unended _ (sym row.ends ∙ w.if-not-row.true)
    ]

is : (c : After-value-2) → parted (record { contacts = c.in_ok-contacts.contacts; outputs = c.value.result; nodes = c.value-2.result })
    ≡ drawing_of (fields_of c.args.file.now).items
is c =
    let file = c.args.file.now in
    let row = c.first_four-row.ensures in
    let first = of_row file (Some c.in_ok-row.field-0) row.first (c.in_ok-row.was) in
    let outputs = of_row file (Some c.in_ok-outputs.outputs) row.second (c.in_ok-outputs.was) in
    let nodes = of_row file (Some c.in_ok-nodes.nodes) row.third (c.in_ok-nodes.was) in
    let value = λ (i : Item). i.value in
    parted-is (fields_of file) (record { contacts = c.in_ok-contacts.contacts; outputs = c.value.result; nodes = c.value-2.result }) (sym (contacts-first _ c.count_contacts.ensures first) ∙ c.in_ok-contacts.was)
    (c.value.ensures ∙ ap value outputs) (c.value-2.ensures ∙ ap value nodes)

pub returns-then-not-is_sound : goal.returns-then-not-is_sound
returns-then-not-is_sound c =
    unsound _ (ap is_drawing (sym (is (goal.at.returns-then-not-is_sound c).After-value-2)) ∙ sym c.is_sound.ensures ∙ c.if-not-is_sound.true)

pub returns : goal.returns
returns c =
    let file = c.args.file.now in
    let row = c.first_four-row.ensures in
    let first = of_row file (Some c.in_ok-row.field-0) row.first (c.in_ok-row.was) in
    let outputs = of_row file (Some c.in_ok-outputs.outputs) row.second (c.in_ok-outputs.was) in
    let nodes = of_row file (Some c.in_ok-nodes.nodes) row.third (c.in_ok-nodes.was) in
    let d = is (goal.at.returns c).After-value-2 in
    ap Some d
    ∙ formed _ (sym (contacts-first _ c.count_contacts.ensures first) ∙ c.in_ok-contacts.was)
    (whole 2 1 1 8 c.has_parts.ensures (omega arith) outputs ∙ c.if-not-has_parts.false)
    (whole 7 3 0 200 c.has_parts-2.ensures (omega arith) nodes ∙ c.if-not-has_parts-2.false)
    (sym row.four ∙ sym (there _) ∙ sym c.is_some.ensures ∙ c.if-is_some.false)
    (sym row.ends ∙ c.if-not-row.false) (ap is_drawing (sym d) ∙ sym c.is_sound.ensures ∙ c.if-not-is_sound.false)
