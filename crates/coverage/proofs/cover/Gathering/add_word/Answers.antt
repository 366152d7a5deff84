-- `cover::Gathering::add_word` meets its contract: the word has none of the rule's inputs, or one that was there, or new ones alone.
use native.Mathlib.Omega.{arith}
use mathlib.Core.Path.{sym, ◌∙◌}
use Rattle.std.proofs.Common.{rules}
use Rattle.coverage.proofs.Adds.{put_one, meets}
use Rattle.coverage.proofs.cover.Gathering.add_word.Goals as goal

pub returns-then-before-rule-ne0-clause-put : goal.returns-then-before-rule-ne0-clause-put
returns-then-before-rule-ne0-clause-put g c =
    meets c.args.self.now.words c.args.self.now.outputs c.args.rule.cube c.args.rule.word c.args.w c.args.self.now.ruled c.args.self.now.truths
    (sym c.has.ensures ∙ c.if-not-has.false) (search rules) (λ z. omega (arith, z, c.if-before-rule-ne0.true))

pub returns-clause-put : goal.returns-clause-put
returns-clause-put g c =
    put_one _ _ c.args.rule.cube c.args.rule.word _ _ _ (sym c.has.ensures ∙ c.if-not-has.false) c.requires.0 c.if-before-rule-ne0.false (omega arith)
    (rw (← c.requires.1, ← c.requires.2) c.mark.ensures)
