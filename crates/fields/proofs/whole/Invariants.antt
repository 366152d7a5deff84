-- `whole` meets its contract. The loop's invariant: the file's framing is that of the fields from the cursor on. The measure is what is left of the file.
use Prim.Native.Nat.{◌-◌}
use mathlib.Core.Path.{◌≡◌}
use lib.ListN.{length}
use Rattle.fields.specs.Fields.{fields_from, fields_of}
use Rattle.fields.proofs.whole.Given as goal

abbrev pub invariant-loop-moved : goal.invariant-loop-moved
invariant-loop-moved l = (fields_of l.file).framing ≡ (fields_from l.file l.cursor.at).framing

abbrev pub decreases-loop-moved : goal.decreases-loop-moved
decreases-loop-moved l = length l.file - l.cursor.at
