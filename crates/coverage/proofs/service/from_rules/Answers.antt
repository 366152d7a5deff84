-- `service::from_rules` meets its contract: refused by question 18, or what its rules give.
use native.Mathlib.Omega.{arith}
use Prim.Native.Nat.{◌*◌, ◌-◌, ◌%◌, ◌^◌, ◌≤◌}
use mathlib.Core.Path.{◌≡◌, sym, ap, ◌∙◌}
use Rattle.std.specs.Option.{option_map}
use Rattle.files.specs.declared.refusal.Refusal.TheVariants.{Rules}
use Rattle.rows.proofs.Rows.{row-place}
use Rattle.rulesheet.specs.Inner.Sheet.{counts_of}
use Rattle.coverage.proofs.Outcomes.{refused-form, refused-by}
use Rattle.coverage.proofs.Sheets.{sheet-limited}
use Rattle.coverage.proofs.service.from_rules.Goals.{After-fixed_contacts}
use Rattle.coverage.proofs.service.from_rules.Goals as goal

-- How many words the truth tables take.
most : (c : After-fixed_contacts) → let sheet = c.in-Some.sheet in
    (sheet.outputs * 2 ^ c.fixed_contacts.result % 2 ^ 64 ≡ sheet.outputs * 2 ^ (sheet.contacts - 6)) × (sheet.outputs * 2 ^ (sheet.contacts - 6) ≤ 512)
most c =
    let sheet = c.in-Some.sheet in
    let limits = sheet-limited sheet in
    row-place sheet.contacts _ _ (omega (arith, limits.contacts.1, sheet.counted.0)) c.fixed_contacts.ensures (omega (arith, limits.outputs.1, sheet.counted.1))

pub returns-in_default : goal.returns-in_default
returns-in_default c =
    refused-by c.args.rules.now _ Rules
    (refused-form c.args.rules.now (sym c.ask_form.ensures.counts ∙ ap (option_map counts_of) c.in_default.is))

pub overflow_shl-most : goal.overflow_shl-most
overflow_shl-most c =
    let sheet = c.in-Some.sheet in
    omega (arith, c.fixed_contacts.ensures, (sheet-limited sheet).contacts.1, sheet.counted.0)

pub write-requires : goal.write-requires
write-requires c =
    let m = most (goal.at.write-requires c).After-fixed_contacts in
    (omega (arith, m.0, c.if-most-le8.true), omega arith)

pub write-requires-then-most-le64 : goal.write-requires-then-most-le64
write-requires-then-most-le64 c =
    let m = most (goal.at.write-requires-then-most-le64 c).After-fixed_contacts in
    (omega (arith, m.0, c.if-most-le64.true), omega arith)

pub write-requires-2 : goal.write-requires-2
write-requires-2 c = ((most (goal.at.write-requires-2 c).After-fixed_contacts).1, omega arith)
