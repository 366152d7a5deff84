-- The field that is written has room for its length, and ends within the case.
use Rattle.std.proofs.Common.{◌+◌, ◌≤◌}
use Rattle.text.proofs.spelling.spell.Given as goal

abbrev pub invariant-loop-sign : goal.invariant-loop-sign
invariant-loop-sign l = (l.start + 3 ≤ l.end) × (l.end ≤ 1024)
