-- `form::is_rule` meets its contract: at each `return` the tests that led there decide.
use native.Mathlib.Omega.{arith}
use Prim.Native.Nat.{ℕ, ◌*◌, ◌%◌, ◌^◌}
use mathlib.Core.Path.{◌≡◌, sym, ◌∙◌}
use borrow.Author.Tests.{tests, eq-eqb, lt-ltb, le-ltb}
use lib.Dec.{leb}
use lib.ListN.{get_or, take}
use Rattle.std.proofs.Common.{rules}
use Rattle.std.proofs.lemmas.Iterator.{YieldsList-from_slice}
use Rattle.std.proofs.lemmas.Iterator.Search.{all_from_yields_List}
use Rattle.fields.specs.Bounded.{all}
use Rattle.bits.proofs.Bits.{bits-of}
use Rattle.rulesheet.proofs.Forms.{all_listed, rule-by}
use Rattle.rulesheet.proofs.form.is_rule.Goals.{After-all}
use Rattle.rulesheet.proofs.form.is_rule.Goals as goal

-- The test of the bytes, the word, and its bound by a shift.
sound : (c : After-all) → c.all.result ≡ all c.args.n (λ k. leb (get_or c.value-rule.result.now k 0) 2)
sound c =
    all_from_yields_List (λ b. leb b 2) _ _ c.all.result c.all.ensures.ran
    (YieldsList-from_slice (take c.args.n c.value-rule.result.now) cc) (λ x b q k. search (rules, tests))
    ∙ all_listed (λ b. leb b 2) c.value-rule.result.now c.args.n (omega arith)

abbrev word : After-all → ℕ
word c = get_or c.value-rule.result.now c.args.n 0

bound : (c : After-all) → let m = c.args.m in 1 * 2 ^ m % 2 ^ 64 ≡ 2 ^ m
bound c = bits-of _ (omega (arith, c.requires.1))

pub returns-then-not-all : goal.returns-then-not-all
returns-then-not-all c =
    rule-by _ _ _ _ c.value-rule.ensures
    (simp (eq-eqb _ _ c.if-tag-ne9.false, eq-eqb _ _ c.if-rule-n.false, sym (sound (goal.at.returns-then-not-all c).After-all) ∙ c.if-not-all.true))

pub returns-then-m-word : goal.returns-then-m-word
returns-then-m-word c =
    let l = (goal.at.returns-then-m-word c).After-all in
    rule-by _ _ _ _ c.value-rule.ensures
    (simp (eq-eqb _ _ c.if-tag-ne9.false, eq-eqb _ _ c.if-rule-n.false, sym (sound l) ∙ c.if-not-all.false, le-ltb (word l) (2 ^ c.args.m) (omega (arith, c.if-m-word.true, bound l))))

pub returns : goal.returns
returns c =
    let l = (goal.at.returns c).After-all in
    rule-by _ _ _ _ c.value-rule.ensures
    (simp (eq-eqb _ _ c.if-tag-ne9.false, eq-eqb _ _ c.if-rule-n.false, sym (sound l) ∙ c.if-not-all.false, lt-ltb (word l) (2 ^ c.args.m) (omega (arith, c.if-m-word.false, bound l))))
