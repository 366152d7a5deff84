-- `Sound::put_level` meets its contract. The loop's invariant: the nodes of this level that were passed have their words.
use Rattle.truths.specs.Inner.Words.{LevelTo}
use Rattle.truths.proofs.paths.Sound.put_level.Given as goal

abbrev pub invariant-loop-i : goal.invariant-loop-i
invariant-loop-i l = LevelTo l.self.parts.contacts l.self.parts.nodes.now l.values l.level l.i
