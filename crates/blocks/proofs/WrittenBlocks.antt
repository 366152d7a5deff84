-- The block of several levels as it is written and stored.
use Prim.Native.Nat.{ℕ, zero, suc, ◌+◌, ◌-◌, ◌/◌, ◌≤◌, ◌<◌}
use native.Mathlib.Omega.{arith}
use mathlib.Core.Path.{◌≡◌, refl, sym, ap₂, ◌∙◌}
use mathlib.Core.Bool.{Bool, true, false, ◌&&◌, ◌||◌}
use mathlib.Core.List.{List}
use Rattle.fields.specs.Bounded.{any}
use Rattle.diagram.specs.declared.Diagram.{Diagram}
use Rattle.diagram.specs.Diagram.{width}
use Rattle.rules.specs.declared.Entry.{Entry}
use Rattle.rules.specs.declared.Entry.TheVariants.{Always}
use Rattle.rules.specs.Make.{Make, return, ◌>>=◌}
use Rattle.rules.specs.Blocks.{Matrix, entry_at, is_always, term, lines_in, joined, cut, product_entry, product, level_entry, block}
use Rattle.gates.specs.declared.gate.Gates.{Gates}
use Rattle.gates.specs.Inner.Written.{free_line, Grown, RoomFor}
use Rattle.products.specs.Inner.Cells.{Stored}
use Rattle.gates.proofs.Binding.{sequence-same}
use Rattle.rules.proofs.Cuts.{size-cut}
use Rattle.rules.proofs.Halves.{cut-single, cut-halves}
use Rattle.blocks.proofs.Levels.{level_of, level-listed, level-at}
use Rattle.rules.proofs.Products.{sure}
use Rattle.gates.proofs.Rooms.{room-first, room-then}
use Rattle.gates.proofs.Writing.{written-return, written-bind, written-own}

any_same : (p q : ℕ → Bool) (n : ℕ) → ((i : ℕ) → i < n → p i ≡ q i) → any n p ≡ any n q
unfolding any
any_same p q zero h = refl
any_same p q (suc n) h = ap₂ ◌||◌ (any_same p q n (λ i l. h i (omega arith))) (h n (omega arith))

-- Matrices with the same entries have the same product.
module _ (rows middle columns : ℕ) (left left' right right' : Matrix)
    (lefts : (u w : ℕ) → u < rows → w < middle → entry_at left u w ≡ entry_at left' u w)
    (rights : (w v : ℕ) → w < middle → v < columns → entry_at right w v ≡ entry_at right' w v) where
  entry-same : (u v : ℕ) → u < rows → v < columns → product_entry middle left right u v ≡ product_entry middle left' right' u v
  unfolding product_entry
  entry-same u v hu hv =
      ap₂ (λ (b : Bool) (m : Make (List Entry)). elim b [ true ↦ return Always | false ↦ m >>= λ ts. joined (lines_in ts) ])
      (any_same (sure left right u v) (sure left' right' u v) middle (λ w h.
      ap₂ (λ (x y : Entry). is_always x && is_always y) (lefts u w hu h) (rights w v h hv)))
      (sequence-same _ _ middle 0 (λ w _ h. ap₂ term (lefts u w hu (omega arith)) (rights w v (omega arith) hv)))

  product-same : product rows middle columns left right ≡ product rows middle columns left' right'
  unfolding product
  product-same =
      sequence-same _ _ rows 0 (λ u _ h.
      sequence-same _ _ columns 0 (λ v _ g. entry-same u v (omega arith) (omega arith)))

-- A block of more than one level is the product of its halves.
block-halves : (d : Diagram) (l count : ℕ) → 2 ≤ count →
    block d (cut count) l
    ≡ (block d (cut ((count + 1) / 2)) l >>= λ left.
    block d (cut (count - (count + 1) / 2)) (l + (count + 1) / 2) >>= λ right.
    product (width d l) (width d (l + (count + 1) / 2)) (width d (l + count)) left right)
unfolding block
block-halves d l count more =
    let half = (count + 1) / 2 in
    let columns : l + half + (count - half) ≡ l + count = omega arith in
    rw (cut-halves count more, size-cut half (omega arith), size-cut (count - half) (omega arith)) (rw columns)

-- A block of count levels from level l on is written, and its matrix stored.
pub record BuiltBlock (d : Diagram) (l count : ℕ) (g h : Gates) (cells : Matrix) : Type 0 where
  pub grown : Grown (block d (cut count) l) g h
  pub stored : Stored cells (entry_at (block d (cut count) l (free_line g)).1) (width d l) (width d (l + count))

-- The product of the matrices of the two halves of a block.
abbrev pub halves_product : Diagram → ℕ → ℕ → Matrix → Matrix → Make Matrix
halves_product d l count = product (width d l) (width d (l + (count + 1) / 2)) (width d (l + count))

-- The product of the two stored matrices is that of the two blocks.
product_is : (d : Diagram) (l count : ℕ) {g h k : Gates} {left right : Matrix} → BuiltBlock d l ((count + 1) / 2) g h left →
    BuiltBlock d (l + (count + 1) / 2) (count - (count + 1) / 2) h k right →
    halves_product d l count left right
    ≡ halves_product d l count (block d (cut ((count + 1) / 2)) l (free_line g)).1
    (block d (cut (count - (count + 1) / 2)) (l + (count + 1) / 2) (free_line h)).1
product_is d l count {g} {h} {left = left} {right = right} a b =
    let half = (count + 1) / 2 in
    let columns : l + half + (count - half) ≡ l + count = omega arith in
    let second = (block d (cut (count - half)) (l + half) (free_line h)).1 in
    let stored : Stored right (entry_at second) (width d (l + half)) (width d (l + count)) = rw columns at b.stored in
    product-same (width d l) (width d (l + half)) (width d (l + count)) left _ right second a.stored.at stored.at

module _ (d : Diagram) (l : ℕ) {g : Gates} {cells : Matrix} where
  pub built-one : (count : ℕ) → count ≡ 1 → Stored cells (level_entry d l) (width d l) (width d (suc l)) →
      BuiltBlock d l count g g cells
  unfolding block
  built-one count e s =
      let columns : l + count ≡ suc l = omega arith in
      record {
        grown = rw (cut-single count e, level-listed d l) (written-return (level_of d l));
        stored =
            rw (cut-single count e, level-listed d l, columns)
            (record { at = λ u v hu hv. s.at u v hu hv ∙ sym (level-at d l u v hu hv) });
      }

  pub built-two : (count : ℕ) {h k end : Gates} {left right : Matrix} → 2 ≤ count → BuiltBlock d l ((count + 1) / 2) g h left →
      BuiltBlock d (l + (count + 1) / 2) (count - (count + 1) / 2) h k right → Grown (halves_product d l count left right) k end →
      Stored cells (entry_at (halves_product d l count left right (free_line k)).1) (width d l) (width d (l + count)) →
      BuiltBlock d l count g end cells
  built-two count more a b w s =
      let half = (count + 1) / 2 in
      let rest = count - half in
      let first-half = (block d (cut half) l (free_line g)).1 in
      let same = product_is d l count a b in
      let whole =
      rw (← block-halves d l count more) at
      (written-bind (λ x. block d (cut rest) (l + half) >>= halves_product d l count x) a.grown
      (written-bind (halves_product d l count first-half) b.grown (rw same at w))) in
      record { grown = written-own whole; stored = rw (same, whole.result) at s }

-- Room for a block of more than one level leaves room for its left block, then for its right block, then for their product.
module _ (d : Diagram) (l count : ℕ) (more : 2 ≤ count) {g : Gates} (room : RoomFor (block d (cut count) l) g) where
  pub left-room : RoomFor (block d (cut ((count + 1) / 2)) l) g
  left-room = room-first _ _ (rw (block-halves d l count more) at room)

  module _ {h : Gates} {left : Matrix} (a : BuiltBlock d l ((count + 1) / 2) g h left) where
    rest : RoomFor
        (block d (cut (count - (count + 1) / 2)) (l + (count + 1) / 2) >>=
        halves_product d l count (block d (cut ((count + 1) / 2)) l (free_line g)).1)
        h
    rest = room-then _ _ (rw (block-halves d l count more) at room) a.grown

    pub right-room : RoomFor (block d (cut (count - (count + 1) / 2)) (l + (count + 1) / 2)) h
    right-room = room-first _ _ rest

    pub last-room : {k : Gates} {right : Matrix} →
        BuiltBlock d (l + (count + 1) / 2) (count - (count + 1) / 2) h k right → RoomFor (halves_product d l count left right) k
    last-room b = rw (product_is d l count a b) (room-then _ _ rest b.grown)
