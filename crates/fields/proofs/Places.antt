-- The field at a place by the fields from there on.
use Prim.Native.Nat.{ℕ, zero, suc, ◌≤◌}
use native.Mathlib.Omega.{arith}
use mathlib.Core.Path.{◌≡◌, refl, sym, ap, ◌∙◌}
use mathlib.Core.List.{List, [], ◌∷◌}
use lib.ListN.{drop}
use Rattle.fields.specs.Fields.{Item, Fields, item_in}

pub item-at : (is : List Item) (k : ℕ) → item_in (drop k is) 0 ≡ item_in is k
item-at [] zero = refl
item-at [] (suc k) = refl
item-at (i ∷ is) zero = refl
item-at (i ∷ is) (suc k) = item-at is k

-- The field at place k of those of fs, where the fields l are what is left past k fields of gs.
pub item_by : {fs gs : Fields} (k : ℕ) {l : List Item} (m : List Item) → gs ≡ fs → l ≡ drop k gs.items → l ≡ m →
    item_in m 0 ≡ item_in fs.items k
item_by {gs = gs} k m s e d =
    ap (λ (l : List Item). item_in l 0) (sym d ∙ e) ∙ item-at gs.items k ∙ ap (λ (fs : Fields). item_in fs.items k) s

-- A field with a tag above 0 stands where it is found.
pub item-stands : (is : List Item) (k : ℕ) → 1 ≤ (item_in is k).tag → drop k is ≡ item_in is k ∷ drop (suc k) is
item-stands [] zero h = absurd (omega arith)
item-stands [] (suc k) h = absurd (omega arith)
item-stands (i ∷ is) zero h = refl
item-stands (i ∷ is) (suc k) h = item-stands is k h
