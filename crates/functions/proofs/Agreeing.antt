-- Functions that agree below m have the same table of m outputs.
use Prim.Native.Nat.{ℕ, suc, ◌*◌, ◌<◌}
use native.Mathlib.Omega.{arith}
use mathlib.Core.Path.{◌≡◌, ap, ap₂, fun_ext}
use mathlib.Core.List.{List, [], ◌∷◌}
use lib.Dec.{leb}
use lib.ListN.{length}
use Rattle.fields.specs.Bounded.{all, listed}
use Rattle.fields.specs.Fields.{Item, encoded}
use Rattle.fields.proofs.Listed.{listed_same}
use Rattle.files.proofs.Heads.{field}
use Rattle.table.specs.Encode.{level_item, bytes_of}
use Rattle.functions.specs.Functions.{Function, half_at, number_in, canonical, is_narrow}
use Rattle.functions.proofs.Levels.{level-same}

module _ (n m : ℕ) (f g : ℕ → Function) (agree : (j : ℕ) → j < m → f j ≡ g j) where
  pub narrow-same : is_narrow n m f ≡ is_narrow n m g
  unfolding is_narrow
  narrow-same = ap (all n) (fun_ext (λ l. ap (λ (fs : List Function). leb (length fs) 8) (level-same f g m agree l)))

  roots-same : listed (canonical n m f).root m 0 ≡ listed (canonical n m g).root m 0
  roots-same = listed_same _ _ m 0 (λ j h. ap₂ number_in (level-same f g m agree 0) (agree j (omega arith)))

  levels-same : listed (level_item (canonical n m f)) n 0 ≡ listed (level_item (canonical n m g)) n 0
  levels-same = listed_same _ _ n 0 (λ l h.
      ap₂ (λ (fs gs : List Function). field 3 (listed (λ k. number_in gs (half_at fs k)) (2 * length fs) 0))
      (level-same f g m agree l) (level-same f g m agree (suc l)))

  pub table_same : bytes_of (canonical n m f) ≡ bytes_of (canonical n m g)
  unfolding bytes_of
  table_same =
      ap₂ (λ (roots : List ℕ) (levels : List Item). encoded (field 1 (n ∷ []) ∷ field 2 roots ∷ levels)) roots-same levels-same
