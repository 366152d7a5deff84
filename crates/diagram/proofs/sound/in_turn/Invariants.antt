-- `sound::in_turn` meets its contract. The loop's invariant: the mentions passed are in turn, and `next` is what they bring.
use Prim.Native.Nat.{ℕ, ◌≤◌}
use mathlib.Core.Path.{◌≡◌}
use mathlib.Core.Bool.{true}
use mathlib.Core.List.{List}
use lib.ListN.{get_or}
use Rattle.fields.specs.Bounded.{all}
use Rattle.diagram.specs.Questions.{brought}
use Rattle.diagram.proofs.Turns.{is_turn}
use Rattle.diagram.proofs.sound.in_turn.Given as goal

abbrev pub byte_at : List ℕ → ℕ → ℕ
byte_at bytes k = get_or bytes k 0

abbrev pub invariant-loop-byte : goal.invariant-loop-byte
invariant-loop-byte l = (l.next ≤ 256) × (l.next ≡ brought (byte_at l.bytes) l.byte-index) × (all l.byte-index (is_turn (byte_at l.bytes)) ≡ true)
