-- `tables::copy` meets its contract. The loop's invariant: the words passed are copied.
use mathlib.Core.Path.{◌≡◌}
use lib.ListN.{take}
use lib.Seq.{sets}
use Rattle.truths.proofs.tables.copy.Given as goal

abbrev pub invariant-loop-i : goal.invariant-loop-i
invariant-loop-i l = l.block ≡ sets l.initial.block 0 (take l.i l.words)
