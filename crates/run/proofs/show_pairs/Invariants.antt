-- `show_pairs` meets its contract. The loop's invariant: the pairs of the outputs passed are written.
use mathlib.Core.Path.{◌≡◌}
use mathlib.Core.List.{map}
use lib.ListN.{length}
use Rattle.simulation.specs.Service.{read_back}
use Rattle.run.proofs.Paired.{paired}
use Rattle.run.proofs.show_pairs.Given as goal

abbrev pub invariant-loop-j : goal.invariant-loop-j
invariant-loop-j l = record {
  room : length l.pairs ≡ length l.initial.pairs;
  written : l.pairs ≡ paired l.outputs (map read_back l.lines) l.initial.pairs l.before l.j;
}
