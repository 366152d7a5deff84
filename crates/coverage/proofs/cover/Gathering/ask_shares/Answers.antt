-- `cover::Gathering::ask_shares` meets its contract.
use native.Mathlib.Omega.{arith}
use Prim.Native.Nat.{ℕ, ◌+◌, ◌<◌}
use mathlib.Core.Path.{◌≡◌, refl, sym, ap, ◌∙◌, subst}
use lib.ListN.{length, get_or}
use Rattle.std.proofs.lemmas.Iterator.Consumers.{YieldsList-turn, YieldsList-end}
use Rattle.std.proofs.lemmas.List.{length_push}
use Rattle.rulesheet.specs.Rules.{RuleSheet, rule_sheet_in}
use Rattle.rulesheet.specs.Inner.Form.{rules_in}
use Rattle.coverage.specs.Inner.Gathering.{Gathered}
use Rattle.coverage.proofs.Adds.{cube-met, cube-added}
use Rattle.coverage.proofs.Gathers.{gathered_none, gathered_next, shared-next, all_apart}
use Rattle.coverage.proofs.Sheets.{sheet-limited, count-is, rule-at, road}
use Rattle.coverage.proofs.cover.Gathering.ask_shares.Goals.{In-Some, In-None, After-add}
use Rattle.coverage.proofs.cover.Gathering.ask_shares.Goals as goal

abbrev sheet : (g : _) → In-Some g → RuleSheet
sheet g c = rule_sheet_in c.args.sheet.now.file.now

-- The rule that the iterator gives.
given : (g : _) (c : In-Some g) → let rules = rules_in c.args.sheet.now.file.now in let i = length c.loop-value.yielded in
    (i < length rules) × (c.in-Some.value.now ≡ get_or rules i c.in-Some.value.now)
given g c =
    YieldsList-turn (road c.args.sheet.now c.into_iter-value-iterator.ensures.into_iter_gives c.rules-value-items.ensures)
    c.loop-value.yielded _ c.loop-value.yielded_by c.next.result c.next.new.self c.in-Some.value c.in-Some.is c.next.ensures.steps

few : (g : _) (c : In-Some g) → length c.loop-value.yielded < (sheet g c).count
few g c = omega (arith, given g c, count-is c.args.sheet.now)

the-rule : (g : _) (c : In-Some g) → c.in-Some.value.now ≡ (sheet g c).rule (length c.loop-value.yielded)
the-rule g c = rule-at c.args.sheet.now _ (given g c)

-- Once the iterator gives none, all are gathered.
all_gathered : (g : _) (c : In-None g) → let s = rule_sheet_in c.args.sheet.now.file.now in
    Gathered s s.count c.loop-value.self.ruled c.loop-value.self.truths
all_gathered g c =
    let end = YieldsList-end (road c.args.sheet.now c.into_iter-value-iterator.ensures.into_iter_gives c.rules-value-items.ensures)
    c.loop-value.yielded _ c.loop-value.yielded_by c.next.result c.next.new.self c.in-None.is c.next.ensures.steps in
    subst (λ (k : ℕ). Gathered (rule_sheet_in c.args.sheet.now.file.now) k c.loop-value.self.ruled c.loop-value.self.truths)
    (end.1 ∙ count-is c.args.sheet.now) c.loop-value.invariant.gathered

pub loop-value-init : goal.loop-value-init
loop-value-init g c = record {
  words = refl;
  outputs = refl;
  gathered = gathered_none (rule_sheet_in c.args.sheet.now.file.now) _ _ c.requires.none;
}

pub of-requires : goal.of-requires
of-requires g c =
    let l = (goal.at.of-requires g c).In-Some in
    let limits = sheet-limited c.args.sheet.now in
    let long : length c.in-Some.value.now ≡ (sheet g l).contacts + 1 = ap length (the-rule g l) ∙ limits.size _ (few g l) in
    (omega (arith, limits.contacts.1, c.args.sheet.now.counted.0), omega (arith, long, c.args.sheet.now.counted.0))

pub loop-value-preserved : goal.loop-value-preserved
loop-value-preserved g c =
    let l = (goal.at.loop-value-preserved g c).In-Some in
    let loop = c.loop-value in
    record {
      words = c.add.ensures.same.0 ∙ loop.invariant.words;
      outputs = c.add.ensures.same.1 ∙ loop.invariant.outputs;
      gathered =
          subst (λ (k : ℕ). Gathered (rule_sheet_in c.args.sheet.now.file.now) k c.add.new.self.ruled c.add.new.self.truths)
          (sym (length_push loop.yielded c.in-Some.value))
          (gathered_next (sheet g l) _ _ _ _ (length loop.yielded) _ _ c.args.sheet.now.counted.0 (loop.invariant.outputs ∙ c.requires.count)
          (loop.invariant.words ∙ c.requires.size) (the-rule g l) c.of.ensures _ _ loop.invariant.gathered
          (cube-added _ _ _ _ _ _ _ _ c.in-Apart.is c.add.ensures.added));
    }

pub returns-in_default-clause-value : goal.returns-in_default-clause-value
returns-in_default-clause-value g c =
    let l = (goal.at.returns-in_default-clause-value g c).In-Some in
    let loop = c.loop-value in
    shared-next (sheet g l) _ _ _ _ (length loop.yielded) _ _ c.args.sheet.now.counted.0 (loop.invariant.outputs ∙ c.requires.count)
    (loop.invariant.words ∙ c.requires.size) (the-rule g l) c.of.ensures _ _ loop.invariant.gathered (few g l)
    (cube-met _ _ _ _ _ _ _ _ c.in_default.is c.add.ensures.added)

pub returns-clause-value : goal.returns-clause-value
returns-clause-value g c =
    all_apart (rule_sheet_in c.args.sheet.now.file.now) _ _ (all_gathered g (goal.at.returns-clause-value g c).In-None)

pub returns-clause-gathered : goal.returns-clause-gathered
returns-clause-gathered g c = λ e. all_gathered g (goal.at.returns-clause-gathered g c).In-None
