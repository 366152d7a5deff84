-- `Diagram::word` meets its contract. The loop's invariant: `word` is that of the outputs passed, each a byte, so that the sum fits.
use Prim.Native.Nat.{◌+◌, ◌*◌, ◌^◌, ◌≤◌}
use mathlib.Core.Path.{◌≡◌}
use Rattle.diagram.specs.Diagram.{input_of, word_at}
use Rattle.diagram.proofs.Diagram.word.Given as goal

abbrev pub invariant-loop-j : goal.invariant-loop-j
invariant-loop-j l = (l.word + 255 ≤ 255 * 2 ^ l.j) × (l.word ≡ word_at l.self (input_of l.input) l.j)
