-- Room for gates that are made one after another leaves room for each.
use Prim.Native.Nat.{ℕ, zero, suc, ◌+◌, ◌-◌, ◌<◌}
use native.Mathlib.Nat.{zero-add}
use native.Mathlib.Omega.{arith}
use mathlib.Core.Path.{◌≡◌}
use mathlib.Core.List.{List}
use lib.ListN.{length, length-append}
use Rattle.rules.specs.Make.{Make, ◌>>=◌, gate, sequence}
use Rattle.gates.specs.declared.gate.Gates.{Gates}
use Rattle.gates.specs.Inner.Written.{free_line, Written, GateRoom, RoomFor}
use Rattle.gates.proofs.Binding.{sequence-last}
use Rattle.gates.proofs.Writing.{written-length}

module _ {A B : Type 0} (m : Make A) (f : A → Make B) {g : Gates} (room : RoomFor (m >>= f) g) where
  pub room-first : RoomFor m g
  unfolding ◌>>=◌
  room-first =
      let r = m (free_line g) in
      let l = length-append r.0 (f r.1 (free_line g + length r.0)).0 in
      record { lines = omega (arith, room.lines); bytes = omega (arith, room.bytes) }

  pub room-then : {h : Gates} {a : A} → Written m g h a → RoomFor (f a) h
  unfolding ◌>>=◌
  room-then {h} w =
      let r = m (free_line g) in
      let l = length-append r.0 (f r.1 (free_line g + length r.0)).0 in
      let place : free_line h ≡ free_line g + length r.0 = omega (arith, w.count, w.same_first) in
      let kept = written-length w in
      rw (w.result, place)
      (record { lines = omega (arith, room.lines, w.count, w.same_first); bytes = omega (arith, room.bytes, w.count) })

module _ {A : Type 0} (f : ℕ → Make A) {g : Gates} where
  room-shorter : (k i count : ℕ) → count ≡ k + i → RoomFor (sequence f count 0) g → RoomFor (sequence f i 0) g
  room-shorter zero i count e room = let same : count ≡ i = omega arith in rw same at room
  room-shorter (suc k) i count e room =
      let more : count ≡ suc (k + i) = omega arith in
      room-shorter k i (k + i) (omega arith) (room-first _ _ (rw (more, sequence-last f (k + i) 0) at room))

  -- A loop over so many places has room for place i once those before it are made.
  pub room-turn : {i count : ℕ} {h : Gates} {done : List A} → RoomFor (sequence f count 0) g → i < count →
      Written (sequence f i 0) g h done → RoomFor (f i) h
  room-turn {i} {count} room l w =
      let whole = rw (sequence-last f i 0) at (room-shorter (count - suc i) (suc i) count (omega arith) room) in
      rw (zero-add i) at (room-first _ _ (room-then _ _ whole w))

-- Each gate takes up room for one.
module _ {more : ℕ} {g : Gates} (room : GateRoom g (suc more)) where
  pub room-gate : GateRoom g 1
  room-gate = record { lines = omega (arith, room.lines); bytes = omega (arith, room.bytes) }

  pub room-next : {kind x y a : ℕ} {h : Gates} → Written (gate kind x y) g h a → GateRoom h more
  room-next w =
      let kept = written-length w in
      record { lines = omega (arith, room.lines, w.count, w.same_first); bytes = omega (arith, room.bytes, w.count) }
