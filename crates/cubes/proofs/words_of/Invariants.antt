-- `words_of` meets its contract. The loop's invariant: the mask and the value are those of the contacts passed.
use Rattle.cubes.specs.Inner.Cubes.{High}
use Rattle.cubes.proofs.words_of.Given as goal

abbrev pub invariant-loop-byte : goal.invariant-loop-byte
invariant-loop-byte l = High l.fixed l.byte-index l.rule l.words.mask l.words.value
