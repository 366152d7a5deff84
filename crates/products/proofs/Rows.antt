-- The rows of a product, and the product, as they are written and stored.
use Prim.Native.Nat.{ℕ, ◌+◌, ◌<◌}
use native.Mathlib.Decide.{dec_lt}
use native.Mathlib.Omega.{arith}
use mathlib.Core.Path.{◌≡◌, sym, ap, ◌∙◌}
use mathlib.Core.List.{List, [], ◌∷◌, ◌++◌}
use lib.ListN.{length, get_or, set, get_or-append}
use lib.Seq.{get_or-set_same, get_or-set_other, get_or_at}
use Rattle.rules.specs.declared.Entry.{Entry}
use Rattle.rules.specs.declared.Entry.TheVariants.{Never}
use Rattle.rules.specs.Blocks.{Matrix, entry_at, product_entry, product}
use Rattle.gates.specs.declared.gate.Gates.{Gates}
use Rattle.gates.specs.Inner.Written.{free_line, Written, Grown, RoomFor}
use Rattle.products.specs.Inner.Terms.{row_of}
use Rattle.products.specs.Inner.Cells.{RowStored, Stored}
use Rattle.gates.proofs.Binding.{sequence-length}
use Rattle.gates.proofs.Rooms.{room-turn}
use Rattle.gates.proofs.Writing.{written_none, written-more, written-own}

-- The last of a list, and what stands before it.
module _ {A : Type 0} (l : List A) (a d : A) (n : ℕ) (size : length l ≡ n) where
  pub before_last : (i : ℕ) → i < n → get_or l i d ≡ get_or (l ++ (a ∷ [])) i d
  before_last i h = sym (get_or-append l (a ∷ []) d i (omega arith))

  pub at_last : get_or (l ++ (a ∷ [])) n d ≡ a
  at_last = get_or_at l a [] d n size

-- A row is stored entry by entry.
pub row-none : (row : List Entry) (f : ℕ → Entry) → RowStored row f 0
row-none row f = record { at = λ v h. absurd (omega arith) }

pub row-more : {row : List Entry} {f g : ℕ → Entry} {v : ℕ} {e : Entry} → RowStored row f v → v < length row →
    ((i : ℕ) → i < v → f i ≡ g i) → g v ≡ e → RowStored (set row v e) g (v + 1)
row-more {row} {f} {g} {v} {e} s room same last = record { at = λ i h. go i (dec_lt i v) h }
  where
    go : (i : ℕ) → Dec (i < v) → i < v + 1 → get_or (set row v e) i Never ≡ g i
    go i (yes l) h = get_or-set_other row v i e Never (λ here. omega arith) ∙ s.at i l ∙ same i l
    go i (no l) h =
        let here : i ≡ v = omega arith in
        rw here (get_or-set_same row v e Never room ∙ sym last)

-- A matrix is stored row by row.
pub rows-none : (cells : Matrix) (f : ℕ → ℕ → Entry) (columns : ℕ) → Stored cells f 0 columns
rows-none cells f columns = record { at = λ u v h. absurd (omega arith) }

pub rows-more : {cells : Matrix} {row : List Entry} {f g : ℕ → ℕ → Entry} {u columns : ℕ} → Stored cells f u columns →
    RowStored row (g u) columns → u < length cells → ((i v : ℕ) → i < u → f i v ≡ g i v) →
    Stored (set cells u row) g (u + 1) columns
rows-more {cells} {row} {f} {g} {u} {columns} s r room same = record { at = λ i v h b. go i v (dec_lt i u) h b }
  where
    go : (i v : ℕ) → Dec (i < u) → i < u + 1 → v < columns → entry_at (set cells u row) i v ≡ g i v
    go i v (yes l) h b =
        ap (λ (x : List Entry). get_or x v Never) (get_or-set_other cells u i row [] (λ here. omega arith))
        ∙ s.at i v l b
        ∙ same i v l
    go i v (no l) h b =
        let here : i ≡ u = omega arith in
        rw here (ap (λ (x : List Entry). get_or x v Never) (get_or-set_same cells u row [] room) ∙ r.at v b)

-- What holds after the first columns of a row.
pub record RowTurned (middle : ℕ) (left right : Matrix) (u v : ℕ) (g h : Gates) (cells : List Entry) : Type 0 where
  pub written : Grown (row_of middle left right v u) g h
  pub stored : RowStored cells (λ i. get_or (row_of middle left right v u (free_line g)).1 i Never) v

module _ (middle : ℕ) (left right : Matrix) (u : ℕ) {g : Gates} where
  pub row-begun : (cells : List Entry) → RowTurned middle left right u 0 g g cells
  unfolding row_of
  row-begun cells = record { written = written_none (product_entry middle left right u); stored = row-none cells _ }

  module _ {v : ℕ} {h : Gates} {cells : List Entry} (t : RowTurned middle left right u v g h cells) where
    pub row-room : (columns : ℕ) → RoomFor (row_of middle left right columns u) g → v < columns →
        RoomFor (product_entry middle left right u v) h
    unfolding row_of
    row-room columns room l = room-turn (product_entry middle left right u) room l t.written

    pub row-longer : {k : Gates} {e : Entry} → v < length cells → Written (product_entry middle left right u v) h k e →
        RowTurned middle left right u (v + 1) g k (set cells v e)
    unfolding row_of
    row-longer {e = e} room s =
        let more = written-more (product_entry middle left right u) t.written s in
        let row = (row_of middle left right v u (free_line g)).1 in
        let size : length row ≡ v = sequence-length (product_entry middle left right u) v 0 (free_line g) in
        record {
          written = written-own more;
          stored = rw more.result at (row-more t.stored room (before_last row e Never v size) (at_last row e Never v size));
        }

-- What holds after the first rows of a product.
pub record Turned (middle columns : ℕ) (left right : Matrix) (u : ℕ) (g h : Gates) (cells : Matrix) : Type 0 where
  pub written : Grown (product u middle columns left right) g h
  pub stored : Stored cells (entry_at (product u middle columns left right (free_line g)).1) u columns

module _ (middle columns : ℕ) (left right : Matrix) {g : Gates} where
  pub begun : (cells : Matrix) → Turned middle columns left right 0 g g cells
  unfolding product row_of
  begun cells = record { written = written_none (row_of middle left right columns); stored = rows-none cells _ _ }

  module _ {u : ℕ} {h : Gates} {cells : Matrix} (t : Turned middle columns left right u g h cells) where
    pub product-room : (rows : ℕ) → RoomFor (product rows middle columns left right) g → u < rows →
        RoomFor (row_of middle left right columns u) h
    unfolding product row_of
    product-room rows room l = room-turn (row_of middle left right columns) room l t.written

    pub longer : {k : Gates} {stored : List Entry} → u < length cells → Grown (row_of middle left right columns u) h k →
        RowStored stored (λ v. get_or (row_of middle left right columns u (free_line h)).1 v Never) columns →
        Turned middle columns left right (u + 1) g k (set cells u stored)
    unfolding product row_of
    longer room s r =
        let more = written-more (row_of middle left right columns) t.written s in
        let rows = (product u middle columns left right (free_line g)).1 in
        let row = (row_of middle left right columns u (free_line h)).1 in
        let size : length rows ≡ u = sequence-length (row_of middle left right columns) u 0 (free_line g) in
        let there : get_or (rows ++ (row ∷ [])) u [] ≡ row = at_last rows row [] u size in
        record {
          written = written-own more;
          stored =
              rw more.result at
              (rows-more {g = entry_at (rows ++ (row ∷ []))} t.stored (record { at = λ v l. r.at v l ∙ ap (λ (x : List Entry). get_or x v Never) (sym there) }) room
              (λ i v l. ap (λ (x : List Entry). get_or x v Never) (before_last rows row [] u size i l)));
        }
