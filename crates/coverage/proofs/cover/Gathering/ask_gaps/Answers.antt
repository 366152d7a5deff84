-- `cover::Gathering::ask_gaps` meets its contract.
use mathlib.Core.Path.{◌≡◌, sym, ap, ◌∙◌}
use mathlib.Core.Bool.{Bool, cond}
use lib.ListN.{get_or}
use Rattle.std.proofs.Common.{rules}
use Rattle.fields.specs.Bounded.{all}
use Rattle.coverage.specs.declared.cover.Gaps.TheVariants.{Covered, Open}
use Rattle.coverage.specs.Inner.Gathering.{is_full}
use Rattle.coverage.proofs.Covers.{first-full}
use Rattle.coverage.proofs.cover.Gathering.ask_gaps.Goals.{After-are_full}
use Rattle.coverage.proofs.cover.Gathering.ask_gaps.Goals as goal

asked : (g : _) (c : After-are_full g) → c.are_full.result ≡ all c.args.self.now.words (λ w. is_full (get_or c.args.self.now.ruled w 0))
asked g c = c.are_full.ensures ∙ first-full c.args.self.now.ruled c.args.self.now.words (search rules)

pub returns-then-are_full : goal.returns-then-are_full
returns-then-are_full g c = ap (λ (b : Bool). cond b Covered Open) (sym c.if-are_full.true ∙ asked g (goal.at.returns-then-are_full g c).After-are_full)

pub returns-else-are_full : goal.returns-else-are_full
returns-else-are_full g c = ap (λ (b : Bool). cond b Covered Open) (sym c.if-are_full.false ∙ asked g (goal.at.returns-else-are_full g c).After-are_full)
