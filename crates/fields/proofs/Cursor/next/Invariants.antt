-- `Cursor::next` meets its contract. The loop's invariant: what stands at the cursor is what stands where it began. The measure is what
-- is left of the file.
use Prim.Native.Nat.{◌-◌}
use mathlib.Core.Path.{◌≡◌}
use lib.ListN.{length}
use Rattle.fields.specs.Inner.Walk.{step_at}
use Rattle.fields.proofs.Cursor.next.Given as goal

abbrev pub invariant-loop-field : goal.invariant-loop-field
invariant-loop-field l = step_at l.file l.initial.cursor.at ≡ step_at l.file l.cursor.at

abbrev pub decreases-loop-field : goal.decreases-loop-field
decreases-loop-field l = length l.file - l.cursor.at
