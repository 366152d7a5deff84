-- `decode::lay_levels` meets its contract. The loop's invariant: the arrays hold the levels passed, and the cursor stands at what is left.
use Prim.Native.Nat.{◌-◌, ◌≤◌}
use Rattle.fields.specs.Fields.{fields_from, fields_of}
use Rattle.table.specs.Table.{levels_of}
use Rattle.table.proofs.Decoded.{Decoded}
use Rattle.table.proofs.decode.lay_levels.Given as goal

abbrev pub invariant-loop-level : goal.invariant-loop-level
invariant-loop-level l =
    (l.level ≤ 12) × Decoded (levels_of (fields_of l.file).items) l.level (fields_from l.file l.cursor.at).items l.widths l.edges

abbrev pub decreases-loop-level : goal.decreases-loop-level
decreases-loop-level l = 12 - l.level
