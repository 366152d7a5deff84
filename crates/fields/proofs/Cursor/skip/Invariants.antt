-- `Cursor::skip` meets its contract: what is left after `counter` fields is the invariant.
use Prim.Native.Nat.{◌≤◌, ◌-◌}
use mathlib.Core.Path.{◌≡◌}
use lib.ListN.{drop}
use Rattle.fields.specs.Fields.{fields_from}
use Rattle.fields.proofs.Cursor.skip.Given as goal

abbrev pub invariant-loop : goal.invariant-loop
invariant-loop l =
    (l.counter ≤ l.count) × ((fields_from l.file l.cursor.at).items ≡ drop l.counter (fields_from l.file l.initial.cursor.at).items)

abbrev pub decreases-loop : goal.decreases-loop
decreases-loop l = l.count - l.counter
