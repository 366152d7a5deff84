-- `board::put_pairs` meets its contract. The loop's invariant: the pairs of the outputs passed are written.
use mathlib.Core.Path.{◌≡◌}
use lib.Seq.{sets}
use Rattle.rules.specs.Board.{pair_of}
use Rattle.synthesis.proofs.WrittenPairs.{bytes_of}
use Rattle.synthesis.proofs.board.put_pairs.Given as goal

abbrev pub invariant-loop-j : goal.invariant-loop-j
invariant-loop-j l = l.pairs ≡ sets l.initial.pairs 0 (bytes_of (pair_of l.d l.cells) l.j)
