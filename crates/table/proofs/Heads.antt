-- The fields of a table file, by the answers of questions 3 and 4: the output list, the levels.
use Prim.Native.Nat.{ℕ, zero, suc, ◌≤◌, ◌<◌}
use native.Mathlib.Omega.{arith}
use mathlib.Core.Path.{◌≡◌, refl, ap, ap₂, ◌∙◌}
use mathlib.Core.Bool.{Bool, true, false, ◌&&◌, cond}
use mathlib.Core.List.{List, [], ◌∷◌}
use lib.ListN.{length, get_or, drop}
use Rattle.std.specs.Prelude.{Some, None}
use Rattle.fields.specs.Fields.{Item, value_in}
use Rattle.fields.proofs.Bounded.{and_left, and_right}
use Rattle.files.specs.Header.{has_parts}
use Rattle.files.proofs.Heads.{field}
use Rattle.files.proofs.WholeParts.{HasParts, has_parts_lem, whole_parts}
use Rattle.table.specs.Table.{outputs_in, are_levels}

-- Fields that begin with the output list.
pub record Lists (l : List Item) (m : ℕ) : Type 0 where
  pub rest : List Item
  pub split : l ≡ field 2 (value_in l 0) ∷ rest
  pub count : length (value_in l 0) ≡ m
  pub low : 1 ≤ m
  pub high : m ≤ 8

pub lists : (l : List Item) (m : ℕ) → outputs_in l ≡ Some m → Lists l m
unfolding outputs_in
lists [] m e = absurd (let z : ◌≡◌ {A = ℕ} 0 1 = cc in omega arith)
lists (i ∷ is) m e = go (has_parts 2 1 1 8 i) refl e
  where
    go : (b : Bool) → has_parts 2 1 1 8 i ≡ b → cond b (Some (length i.value)) None ≡ Some m → Lists (i ∷ is) m
    go true t e =
        let q : length i.value ≡ m = cc in
        let (f, p) = has_parts_lem 2 1 1 8 i t in
        let low = p.least in
        let high = p.most in
        record { rest = is; split = ap (λ (j : Item). j ∷ is) f; count = q; low = omega arith; high = omega arith }
    go false t e = absurd (let z : ◌≡◌ {A = ℕ} 0 1 = cc in omega arith)

-- The value of the second field is that of the first from there on.
pub value-one : (is : List Item) → value_in (drop 1 is) 0 ≡ value_in is 1
value-one [] = refl
value-one (i ∷ is) = refl

-- A field of tag 3 and even length 2 to 16.
abbrev pub IsLevel : Item → Type 0
IsLevel i = (i ≡ field 3 i.value) × HasParts 2 1 8 i.value

pub level-at : (n : ℕ) (l : List Item) → are_levels n l ≡ true → (k : ℕ) → k < n → IsLevel (get_or l k (field 0 []))
unfolding are_levels
level-at zero l e k h = absurd (omega arith)
level-at (suc n) [] e k h = absurd (let z : ◌≡◌ {A = ℕ} 0 1 = cc in omega arith)
level-at (suc n) (i ∷ is) e zero h = has_parts_lem 3 2 1 8 i (and_left (has_parts 3 2 1 8 i) (are_levels n is) e)
level-at (suc n) (i ∷ is) e (suc k) h =
    level-at n is (and_right (has_parts 3 2 1 8 i) (are_levels n is) e) k (omega arith)

pub level-count : (n : ℕ) (l : List Item) → are_levels n l ≡ true → length l ≡ n
unfolding are_levels
level-count zero [] e = refl
level-count zero (i ∷ is) e = absurd (let z : ◌≡◌ {A = ℕ} 0 1 = cc in omega arith)
level-count (suc n) [] e = absurd (let z : ◌≡◌ {A = ℕ} 0 1 = cc in omega arith)
level-count (suc n) (i ∷ is) e =
    ap suc (level-count n is (and_right (has_parts 3 2 1 8 i) (are_levels n is) e))

pub are-levels : (l : List Item) → ((k : ℕ) → k < length l → IsLevel (get_or l k (field 0 []))) → are_levels (length l) l ≡ true
unfolding are_levels
are-levels [] h = refl
are-levels (i ∷ is) h =
    let (f, v) = h 0 (omega arith) in
    ap₂ ◌&&◌ (ap (has_parts 3 2 1 8) f ∙ whole_parts 3 2 1 8 i.value v.whole v.least v.most)
    (are-levels is (λ k g. h (suc k) (omega arith)))
