-- `write::copy` meets its contract. The loop's invariant: the bytes passed are copied.
use mathlib.Core.Path.{◌≡◌}
use lib.ListN.{take}
use lib.Seq.{sets}
use Rattle.files.proofs.write.copy.Given as goal

abbrev pub invariant-loop-i : goal.invariant-loop-i
invariant-loop-i l = l.file ≡ sets l.initial.file l.at (take l.i l.value)
