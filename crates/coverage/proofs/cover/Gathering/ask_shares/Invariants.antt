-- `cover::Gathering::ask_shares` meets its contract. The loop's invariant: the rules passed are gathered.
use mathlib.Core.Path.{◌≡◌}
use lib.ListN.{length}
use Rattle.rulesheet.specs.Rules.{rule_sheet_in}
use Rattle.coverage.specs.Inner.Gathering.{Gathered}
use Rattle.coverage.proofs.cover.Gathering.ask_shares.Given as goal

abbrev pub invariant-loop-value : goal.invariant-loop-value
invariant-loop-value g l = record {
  words : l.self.words ≡ l.initial.self.words;
  outputs : l.self.outputs ≡ l.initial.self.outputs;
  gathered : Gathered (rule_sheet_in l.sheet.file.now) (length l.yielded) l.self.ruled l.self.truths;
}
