-- An entry of a product as it is written: always, or its terms and then their lines joined.
use Prim.Native.Nat.{ℕ}
use mathlib.Core.Path.{◌≡◌}
use mathlib.Core.Bool.{true, false}
use mathlib.Core.List.{List}
use Rattle.fields.specs.Bounded.{any}
use Rattle.rules.specs.declared.Entry.{Entry}
use Rattle.rules.specs.declared.Entry.TheVariants.{Always}
use Rattle.rules.specs.Blocks.{Matrix, lines_in, joined, product_entry}
use Rattle.gates.specs.declared.gate.Gates.{Gates}
use Rattle.gates.specs.Inner.Written.{free_line, Written, Grown, RoomFor}
use Rattle.products.specs.Inner.Terms.{both_always, terms_of}
use Rattle.rules.proofs.Products.{entry-always, entry-joined}
use Rattle.gates.proofs.Rooms.{room-first, room-then}
use Rattle.gates.proofs.Writing.{written-return, written-bind}

module _ (middle : ℕ) (left right : Matrix) (u v : ℕ) {g : Gates} where
  pub entry-sure : any middle (both_always left right u v) ≡ true → Written (product_entry middle left right u v) g g Always
  entry-sure e = rw (entry-always middle left right u v e) (written-return Always)

  module _ (e : any middle (both_always left right u v) ≡ false) where
    pub entry-terms : RoomFor (product_entry middle left right u v) g → RoomFor (terms_of middle left right u v) g
    unfolding terms_of
    entry-terms room = room-first _ (λ ts. joined (lines_in ts)) (rw (entry-joined middle left right u v e) at room)

    module _ {h : Gates} {lines : List ℕ} (w : Grown (terms_of middle left right u v) g h)
        (found : lines ≡ lines_in (terms_of middle left right u v (free_line g)).1) where
      pub entry-joins : {k : Gates} {y : Entry} → Written (joined lines) h k y → Written (product_entry middle left right u v) g k y
      unfolding terms_of
      entry-joins s =
          rw (entry-joined middle left right u v e) (written-bind (λ ts. joined (lines_in ts)) w (rw found at s))

      pub entry-rest : RoomFor (product_entry middle left right u v) g → RoomFor (joined lines) h
      unfolding terms_of
      entry-rest room =
          rw found (room-then _ (λ ts. joined (lines_in ts)) (rw (entry-joined middle left right u v e) at room) w)
