-- The first no of several questions: where it is none, every answer is yes; where the first answer is no, it is that; where it is yes, it
-- is the first no of the others; where all but the last are yes, it is the last answer.
use Prim.Native.Nat.{ℕ, zero, suc}
use native.Mathlib.Omega.{arith}
use mathlib.Core.Path.{◌≡◌, refl}
use mathlib.Core.List.{List, [], ◌∷◌}
use Rattle.fields.specs.Refusals.{first_no}

pub first-yes : (k : ℕ) (ks : List ℕ) → first_no (k ∷ ks) ≡ 0 → (k ≡ 0) × (first_no ks ≡ 0)
unfolding first_no
first-yes zero ks e = (refl, e)
first-yes (suc k) ks e = absurd (omega arith)

pub first-no : (k : ℕ) (ks : List ℕ) → (k ≡ 0 → ⊥) → first_no (k ∷ ks) ≡ k
unfolding first_no
first-no zero ks h = absurd (h refl)
first-no (suc k) ks h = refl

pub first_next : (k : ℕ) (ks : List ℕ) → k ≡ 0 → first_no (k ∷ ks) ≡ first_no ks
unfolding first_no
first_next zero ks h = refl
first_next (suc k) ks h = absurd (omega arith)

pub first-only : (k : ℕ) → first_no (k ∷ []) ≡ k
unfolding first_no
first-only zero = refl
first-only (suc k) = refl

pub first-last : (k : ℕ) → first_no (0 ∷ k ∷ []) ≡ k
unfolding first_no
first-last k = first-only k
