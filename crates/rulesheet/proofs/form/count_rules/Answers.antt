-- `form::count_rules` meets its contract.
use native.Mathlib.Omega.{arith}
use Prim.Native.Nat.{ℕ, ◌+◌, ◌<◌}
use mathlib.Core.Path.{◌≡◌, refl, sym, ap, ◌∙◌}
use mathlib.Core.Logic.{inl, inr}
use borrow.Author.Tests.{leb-true, leb-false}
use lib.ListN.{length}
use Rattle.std.specs.Prelude.{Some}
use Rattle.fields.specs.Fields.{Fields, fields_from, item_in}
use Rattle.fields.proofs.Bounded.{all_none, all_more}
use Rattle.files.specs.Inner.Row.{Follows}
use Rattle.files.proofs.Taking.{stayed, went_on, field-taken, walked_on, found-more}
use Rattle.rulesheet.specs.Rules.{is_rule}
use Rattle.rulesheet.specs.Inner.Form.{rules_ended}
use Rattle.rulesheet.proofs.Forms.{not-rule, all-passed}
use Rattle.rulesheet.proofs.form.count_rules.Goals.{After-is_rule}
use Rattle.rulesheet.proofs.form.count_rules.Goals as goal

abbrev fs : After-is_rule → Fields
fs c = fields_from c.args.file.now c.args.at

-- The field that was taken.
taken : (c : After-is_rule) → Follows c.args.file.now c.loop-i.place (Some c.in-Some.field) c.in-Some.past
taken c = went_on _ _ _ _ c.in-Some.ensures

more : (c : After-is_rule) → c.loop-i.i < length (fs c).items
more c =
    let found = found-more c.args.file.now (fs c) c.loop-i.i c.loop-i.invariant.1 (taken c) in
    omega (arith, leb-true (c.loop-i.i + 1) (length (fs c).items) (sym found))

asked : (c : After-is_rule) → c.is_rule.result ≡ is_rule c.args.n c.args.m (item_in (fs c).items c.loop-i.i)
asked c = c.is_rule.ensures ∙ ap (is_rule c.args.n c.args.m) (field-taken c.args.file.now (fs c) c.loop-i.i c.loop-i.invariant.1 (taken c))

pub loop-i-init : goal.loop-i-init
loop-i-init c = (omega arith, refl, omega arith, all_none _)

pub returns-in_default : goal.returns-in_default
returns-in_default c =
    let loop = c.loop-i in
    let fs = fields_from c.args.file.now c.args.at in
    let none = found-more c.args.file.now fs loop.i loop.invariant.1 (stayed _ _ c.in_default.ensures) in
    c.count_if_ended.ensures
    ∙ all-passed c.args.n c.args.m fs loop.i loop.invariant.1 loop.invariant.0 loop.invariant.2
    (inl (omega (arith, leb-false (loop.i + 1) (length fs.items) (sym none)))) loop.invariant.3

pub returns-then-not-is_rule : goal.returns-then-not-is_rule
returns-then-not-is_rule c =
    let l = (goal.at.returns-then-not-is_rule c).After-is_rule in
    not-rule c.args.n c.args.m (fs l) c.loop-i.i (more l) (sym (asked l) ∙ c.if-not-is_rule.true)

pub loop-i-smaller : goal.loop-i-smaller
loop-i-smaller c = omega (arith, c.loop-i-test.true)

pub loop-i-preserved : goal.loop-i-preserved
loop-i-preserved c =
    let loop = c.loop-i in
    let l = (goal.at.loop-i-preserved c).After-is_rule in (
      omega arith,
      walked_on c.args.file.now (fs l) loop.i loop.invariant.1 (taken l),
      omega (arith, more l),
      all_more _ loop.i loop.invariant.3 (sym (asked l) ∙ c.if-not-is_rule.false),
    )

pub returns : goal.returns
returns c =
    let loop = c.loop-i in
    let fs = fields_from c.args.file.now c.args.at in
    let most : loop.i ≡ 64 = omega (arith, loop.invariant.0, c.loop-i-test.false) in
    c.count_if_ended-2.ensures
    ∙ ap (λ (k : ℕ). rules_ended k (fields_from c.args.file.now loop.place)) (sym most)
    ∙ all-passed c.args.n c.args.m fs loop.i loop.invariant.1 loop.invariant.0 loop.invariant.2 (inr most) loop.invariant.3
