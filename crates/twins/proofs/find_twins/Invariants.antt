-- `find_twins` meets its contract. The loops' invariants: the levels passed have no alike nodes, nor have the nodes passed, and
-- the pairs are counted.
use Prim.Native.Nat.{◌+◌, ◌*◌, ◌≤◌, ◌<◌}
use mathlib.Core.Path.{◌≡◌}
use Rattle.diagram.specs.Diagram.{width}
use Rattle.twins.proofs.Pairs.{Passed}
use Rattle.twins.proofs.find_twins.Given as goal

abbrev pub invariant-loop-later : goal.invariant-loop-later
invariant-loop-later l =
    (l.later-end ≡ width l.d l.level) × ((l.level < 12) × (l.later-end ≤ 8) × (l.compared ≤ l.level * 64 + l.later * 8))
    × Passed l.d l.level l.later l.compared

abbrev pub invariant-loop-level : goal.invariant-loop-level
invariant-loop-level l = (l.compared ≤ l.level * 64) × Passed l.d l.level 0 l.compared
