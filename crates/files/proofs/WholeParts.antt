-- What the test of a field of whole parts says, and the fields that pass it.
use borrow.Author.Tests.{leb-true, eqb-true, eq-eqb, le-leb}
use Prim.Native.Nat.{ℕ, suc, ◌/◌, ◌%◌, ◌≤◌}
use native.Mathlib.Omega.{arith}
use mathlib.Core.Path.{◌≡◌, refl, sym, ap, ap₂, ◌∙◌}
use mathlib.Core.Bool.{Bool, true, ◌&&◌}
use mathlib.Core.List.{List, ◌∷◌}
use lib.Dec.{leb, eqb}
use lib.ListN.{length, drop}
use Rattle.fields.specs.Fields.{Item, item_in, value_in}
use Rattle.fields.specs.Refusals.{between}
use Rattle.fields.proofs.Bounded.{and_left, and_right}
use Rattle.fields.proofs.Places.{item-stands}
use Rattle.files.specs.Header.{has_parts}
use Rattle.files.proofs.Heads.{field, field_is}

-- So many whole parts of a size.
pub record HasParts (size low high : ℕ) (v : List ℕ) : Type 0 where
  pub whole : length v % size ≡ 0
  pub least : low ≤ length v / size
  pub most : length v / size ≤ high

pub has_parts_lem : (tag size low high : ℕ) (i : Item) → has_parts tag size low high i ≡ true →
    (i ≡ field tag i.value) × HasParts size low high i.value
has_parts_lem tag size low high i e =
    let n = length i.value / size in
    let a = eqb i.tag tag in
    let b = eqb (length i.value % size) 0 in
    let c = between low n high in
    let f = and_left (a && b) c e in
    let s = and_right (a && b) c e in (
      field_is i (eqb-true _ _ (and_left a b f)) refl,
      record {
        whole = eqb-true _ _ (and_right a b f);
        least = leb-true _ _ (and_left (leb low n) (leb n high) s);
        most = leb-true _ _ (and_right (leb low n) (leb n high) s);
      },
    )

pub whole_parts : (tag size low high : ℕ) (v : List ℕ) → length v % size ≡ 0 → low ≤ length v / size → length v / size ≤ high →
    has_parts tag size low high (record { tag = tag; value = v }) ≡ true
whole_parts tag size low high v w l m = simp (eq-eqb tag tag refl, eq-eqb _ _ w, le-leb _ _ l, le-leb _ _ m)

-- The test's answer on an item, by the answer on a field that stands for it.
pub parted : (tag size low high : ℕ) {most : ℕ} {i j : Item} {r : Bool} → r ≡ has_parts tag size low most i → most ≡ high → i ≡ j →
    has_parts tag size low high j ≡ r
parted tag size low high e m f = ap₂ (has_parts tag size low) (sym m) (sym f) ∙ sym e

-- Such a field at a place, and those behind it.
pub part_at : (k tag size low high : ℕ) (is : List Item) → 1 ≤ tag → has_parts tag size low high (item_in is k) ≡ true →
    (drop k is ≡ field tag (value_in is k) ∷ drop (suc k) is) × HasParts size low high (value_in is k)
part_at k tag size low high is some e =
    let (i, h) = has_parts_lem tag size low high (item_in is k) e in
    let t : (item_in is k).tag ≡ tag = ap (λ (i : Item). i.tag) i in
    (item-stands is k (omega arith) ∙ ap (λ (j : Item). j ∷ drop (suc k) is) i, h)
