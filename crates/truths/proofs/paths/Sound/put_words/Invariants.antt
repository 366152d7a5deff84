-- `Sound::put_words` meets its contract. The loop's invariant: the levels passed, from the highest down, have their words.
use Rattle.truths.specs.Inner.Words.{WordsFrom}
use Rattle.truths.proofs.paths.Sound.put_words.Given as goal

abbrev pub invariant-loop-level : goal.invariant-loop-level
invariant-loop-level l = WordsFrom l.self.parts.contacts l.self.parts.nodes.now l.values l.level
