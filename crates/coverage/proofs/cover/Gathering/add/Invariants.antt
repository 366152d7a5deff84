-- `cover::Gathering::add` meets its contract. The loop's invariant: the rule's inputs in the words passed are added.
use mathlib.Core.Path.{◌≡◌}
use Rattle.coverage.specs.Inner.Gathering.{Added}
use Rattle.coverage.proofs.cover.Gathering.add.Given as goal

abbrev pub invariant-loop-w : goal.invariant-loop-w
invariant-loop-w g l = record {
  bound : l.w-end ≡ l.self.words;
  words : l.self.words ≡ l.initial.self.words;
  outputs : l.self.outputs ≡ l.initial.self.outputs;
  added : Added l.initial.self.words l.initial.self.outputs l.rule.cube l.rule.word l.w l.initial.self.ruled l.initial.self.truths l.self.ruled l.self.truths;
}
