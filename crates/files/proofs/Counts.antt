-- The count of contacts is that of the first field.
use Prim.Native.Nat.{ℕ}
use mathlib.Core.Path.{◌≡◌, refl, ap, ◌∙◌}
use mathlib.Core.List.{List, [], ◌∷◌}
use Rattle.std.specs.Prelude.{Option}
use Rattle.fields.specs.Fields.{Item, item_in}
use Rattle.files.specs.Header.{contacts_in}

-- It is asked of the first field, and a missing one is no count.
first_alone : (is : List Item) → contacts_in (item_in is 0 ∷ []) ≡ contacts_in is
unfolding contacts_in
first_alone [] = refl
first_alone (i ∷ is) = refl

pub contacts-first : {i : Item} (is : List Item) {r : Option ℕ} → r ≡ contacts_in (i ∷ []) → i ≡ item_in is 0 → r ≡ contacts_in is
contacts-first is e f = e ∙ ap (λ (j : Item). contacts_in (j ∷ [])) f ∙ first_alone is
