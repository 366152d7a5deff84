-- `fit::ask_levels` meets its contract. The loop's invariant: question 4 is that of the levels left and the fields from the cursor on.
use Prim.Native.Nat.{◌-◌, ◌≤◌}
use Rattle.fields.specs.Fields.{fields_from}
use Rattle.table.proofs.Fits.{PassedLevels}
use Rattle.table.proofs.fit.ask_levels.Given as goal

abbrev pub invariant-loop : goal.invariant-loop
invariant-loop l =
    (l.counter ≤ l.n) × PassedLevels l.n (fields_from l.file l.at).items l.counter (fields_from l.file l.cursor.at).items

abbrev pub decreases-loop : goal.decreases-loop
decreases-loop l = l.n - l.counter
