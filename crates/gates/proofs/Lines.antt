-- The entry of some lines joined, as it is written: never, or their OR tree.
use Prim.Native.Nat.{ℕ, ◌≤◌}
use native.Mathlib.Omega.{arith}
use mathlib.Core.Path.{◌≡◌}
use mathlib.Core.List.{List, [], ◌∷◌}
use lib.ListN.{length}
use Rattle.rules.specs.declared.Entry.TheVariants.{Never, Line}
use Rattle.rules.specs.Make.{return}
use Rattle.rules.specs.Blocks.{cut, or_tree, joined}
use Rattle.gates.specs.declared.gate.Gates.{Gates}
use Rattle.gates.specs.Inner.Written.{Written, RoomFor}
use Rattle.gates.proofs.Rooms.{room-first}
use Rattle.gates.proofs.Writing.{written-return, written-bind}

module _ {g : Gates} where
  pub lines-none : (ls : List ℕ) → length ls ≡ 0 → Written (joined ls) g g Never
  unfolding joined
  lines-none [] e = written-return Never
  lines-none (x ∷ ls) e = absurd (omega arith)

  pub lines-tree : (ls : List ℕ) {h : Gates} {y : ℕ} → 1 ≤ length ls → Written (or_tree (cut (length ls)) ls) g h y →
      Written (joined ls) g h (Line y)
  unfolding joined
  lines-tree [] some w = absurd (omega arith)
  lines-tree (x ∷ ls) some w = written-bind (λ y. return (Line y)) w (written-return _)

  pub lines-room : (ls : List ℕ) → 1 ≤ length ls → RoomFor (joined ls) g → RoomFor (or_tree (cut (length ls)) ls) g
  unfolding joined
  lines-room [] some room = absurd (omega arith)
  lines-room (x ∷ ls) some room = room-first _ (λ y. return (Line y)) room
