-- What `main` has read fits its buffer.
use Rattle.std.proofs.Common.{◌≤◌}
use Rattle.boards.proofs.main.Given as goal

abbrev pub invariant-loop : goal.invariant-loop
invariant-loop l = l.len ≤ 65536
