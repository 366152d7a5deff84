-- A tree of elements joined is that of its first half, rounded up, and of the rest, and the join of both.
use Prim.Native.Nat.{◌+◌, ◌/◌, ◌≤◌}
use native.Mathlib.Omega.{arith}
use mathlib.Core.Path.{◌≡◌, ◌∙◌}
use mathlib.Core.List.{List, [], ◌∷◌}
use lib.ListN.{length, get_or, take, drop, length-drop}
use lib.Seq.{length-take-le}
use Rattle.rules.specs.Make.{Make, return, ◌>>=◌}
use Rattle.rules.specs.Blocks.{cut_within, cut, tree}
use Rattle.gates.specs.declared.gate.Gates.{Gates}
use Rattle.gates.specs.Inner.Written.{Written, RoomFor}
use Rattle.rules.proofs.Cuts.{size-cut}
use Rattle.rules.proofs.Halves.{cut-single, cut-halves}
use Rattle.gates.proofs.Binding.{return-bind}
use Rattle.gates.proofs.Rooms.{room-first, room-then}
use Rattle.gates.proofs.Writing.{written-return, written-bind}

module _ {A : Type 0} (none : A) (join : A → A → Make A) where
  -- The tree of all elements of a list.
  abbrev pub whole : List A → Make A
  whole xs = tree none join (cut (length xs)) xs

  pub single : (xs : List A) {g : Gates} → length xs ≡ 1 → Written (whole xs) g g (get_or xs 0 none)
  unfolding tree
  single xs e = rw (cut-single (length xs) e) (written-return _)

  pub pair-is : (xs : List A) → length xs ≡ 2 → whole xs ≡ join (get_or xs 0 none) (get_or xs 1 none)
  unfolding tree cut cut_within
  pair-is [] e = absurd (omega arith)
  pair-is (x ∷ []) e = absurd (omega arith)
  pair-is (x ∷ y ∷ []) e = return-bind x (λ x. return y >>= λ y. join x y) ∙ return-bind y (λ y. join x y)
  pair-is (x ∷ y ∷ z ∷ xs) e = absurd (omega arith)

  module _ (xs left right : List A) (more : 2 ≤ length xs)
      (front : left ≡ take ((length xs + 1) / 2) xs) (back : right ≡ drop ((length xs + 1) / 2) xs) where
    whole-halves : whole xs ≡ (whole left >>= λ x. whole right >>= λ y. join x y)
    unfolding tree
    whole-halves =
        let half = (length xs + 1) / 2 in
        rw (front, back, cut-halves (length xs) more, length-take-le half xs (omega arith), length-drop half xs, size-cut half (omega arith))

    pub joining : {g h k l : Gates} {x y z : A} → Written (whole left) g h x → Written (whole right) h k y →
        Written (join x y) k l z → Written (whole xs) g l z
    joining w s j = rw whole-halves (written-bind _ w (written-bind _ s j))

    module _ {g : Gates} (room : RoomFor (whole xs) g) where
      pub left-room : RoomFor (whole left) g
      left-room = room-first _ _ (rw whole-halves at room)

      pub right-room : {h : Gates} {x : A} → Written (whole left) g h x → RoomFor (whole right) h
      right-room w = room-first _ _ (room-then _ _ (rw whole-halves at room) w)

      pub join-room : {h k : Gates} {x y : A} → Written (whole left) g h x → Written (whole right) h k y → RoomFor (join x y) k
      join-room w s = room-then _ _ (room-then _ _ (rw whole-halves at room) w) s
