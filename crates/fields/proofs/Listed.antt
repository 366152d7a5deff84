-- The laws of lists by place: how long they are, what stands where, what one more place adds, and when two are the same.
use native.Mathlib.Nat.{not-suc-le-zero}
use native.Mathlib.Numerals.{add-one}
use native.Mathlib.Omega.{arith}
use Prim.Native.Nat.{ℕ, zero, suc, ◌+◌, ◌<◌}
use mathlib.Core.Path.{◌≡◌, refl, ap, ap₂, ◌∙◌}
use mathlib.Core.List.{List, [], ◌∷◌, ◌++◌}
use lib.ListN.{length, get_or}
use lib.Seq.{ext_get_or}
use Rattle.fields.specs.Bounded.{listed}

module _ {A : Type 0} (f : ℕ → A) where
  pub length-listed : (count i : ℕ) → length (listed f count i) ≡ count
  unfolding listed
  length-listed zero i = refl
  length-listed (suc count) i = ap suc (length-listed count (suc i))

  pub get_or-listed : (count i k : ℕ) (d : A) → k < count → get_or (listed f count i) k d ≡ f (i + k)
  unfolding listed
  get_or-listed zero i k d h = absurd (not-suc-le-zero h)
  get_or-listed (suc count) i zero d h = ap f (omega arith)
  get_or-listed (suc count) i (suc k) d h = get_or-listed count (suc i) k d (omega arith) ∙ ap f (omega arith)

  pub listed_at : (count k : ℕ) (d : A) → k < count → get_or (listed f count 0) k d ≡ f k
  listed_at count k d h = get_or-listed count 0 k d h ∙ ap f (omega arith)

  listed_suc : (count i : ℕ) → listed f (suc count) i ≡ listed f count i ++ (f (i + count) ∷ [])
  unfolding listed
  listed_suc zero i = ap (λ (k : ℕ). f k ∷ []) (omega arith)
  listed_suc (suc count) i =
      ap (◌∷◌ (f i)) (listed_suc count (suc i) ∙ ap (λ (k : ℕ). listed f count (suc i) ++ (f k ∷ [])) (omega arith))

  pub listed_more : (count : ℕ) → listed f (count + 1) 0 ≡ listed f count 0 ++ (f count ∷ [])
  listed_more count = rw add-one (listed_suc count 0 ∙ ap (λ (k : ℕ). listed f count 0 ++ (f k ∷ [])) (omega arith))

  -- A list with what f gives at each of its places.
  pub listed-is : (count : ℕ) (l : List A) (a : A) → length l ≡ count → ((i : ℕ) → i < count → f i ≡ get_or l i a) → listed f count 0 ≡ l
  listed-is count l a e h =
      let n = length-listed count 0 in
      ext_get_or a (listed f count 0) l (omega arith)
      (λ i g. listed_at count i a (omega arith) ∙ h i (omega arith))

pub listed_same : {A : Type 0} (f g : ℕ → A) (count p : ℕ) → ((i : ℕ) → i < p + count → f i ≡ g i) → listed f count p ≡ listed g count p
unfolding listed
listed_same f g zero p h = refl
listed_same f g (suc count) p h = ap₂ ◌∷◌ (h p (omega arith)) (listed_same f g count (suc p) (λ i l. h i (omega arith)))
