-- The rails of a code input by their places, and inputs that give the same rails.
use Prim.Native.Nat.{ℕ, zero, suc, ◌+◌, ◌*◌, ◌≤◌, ◌<◌}
use native.Mathlib.Nat.{add-zero, le_of_suc-le-suc, eq-or-lt_of_le}
use native.Mathlib.Omega.{arith}
use mathlib.Core.Path.{◌≡◌, refl, sym, ap, ap₂, ◌∙◌}
use mathlib.Core.Bool.{Bool, true, false, not}
use mathlib.Core.List.{List, [], ◌∷◌, ◌++◌}
use mathlib.Core.Logic.{⊎_elim}
use lib.ListN.{length, get_or, length-append, get_or-append}
use lib.Seq.{get_or-append-add}
use Rattle.diagram.specs.Diagram.{Input, bit}
use Rattle.rules.specs.Code.{code_rails}

abbrev rail_pair : Bool → List ℕ
rail_pair b = bit b ∷ bit (not b) ∷ []

pair-bits : (b : Bool) (i : ℕ) → get_or (rail_pair b) i 0 ≤ 1
pair-bits false zero = omega arith
pair-bits false (suc zero) = omega arith
pair-bits false (suc (suc i)) = omega arith
pair-bits true zero = omega arith
pair-bits true (suc zero) = omega arith
pair-bits true (suc (suc i)) = omega arith

bits-append : (l m : List ℕ) → ((i : ℕ) → get_or l i 0 ≤ 1) → ((i : ℕ) → get_or m i 0 ≤ 1) → (i : ℕ) → get_or (l ++ m) i 0 ≤ 1
bits-append [] m f g i = g i
bits-append (a ∷ l) m f g zero = f 0
bits-append (a ∷ l) m f g (suc i) = bits-append l m (λ k. f (suc k)) g i

module _ (x : Input) where
  pub code-length : (n : ℕ) → length (code_rails n x) ≡ 2 * n
  unfolding code_rails
  code-length zero = refl
  code-length (suc n) = omega (arith, length-append (code_rails n x) (rail_pair (x n)), code-length n)

  code-at : (n i k : ℕ) → i < n → k < 2 → get_or (code_rails n x) (2 * i + k) 0 ≡ get_or (rail_pair (x i)) k 0
  unfolding code_rails
  code-at zero i k h g = absurd (omega arith)
  code-at (suc n) i k h g =
      ⊎_elim
      (λ e.
      let start : 2 * i ≡ length (code_rails n x) = omega (arith, code-length n) in
      ap (λ (m : ℕ). get_or (code_rails n x ++ rail_pair (x n)) (m + k) 0) start
      ∙ get_or-append-add (code_rails n x) (rail_pair (x n)) k 0 ∙ ap (λ (m : ℕ). get_or (rail_pair (x m)) k 0) (sym e))
      (λ l.
      get_or-append (code_rails n x) (rail_pair (x n)) 0 (2 * i + k) (omega (arith, code-length n)) ∙ code-at n i k l g)
      (eq-or-lt_of_le (le_of_suc-le-suc h))

  pub code-on : (n i : ℕ) → i < n → get_or (code_rails n x) (2 * i) 0 ≡ bit (x i)
  code-on n i h = rw (sym (add-zero (2 * i))) (code-at n i 0 h (omega arith))

  pub code_off : (n i : ℕ) → i < n → get_or (code_rails n x) (2 * i + 1) 0 ≡ bit (not (x i))
  code_off n i h = code-at n i 1 h (omega arith)

  pub code-bits : (n i : ℕ) → get_or (code_rails n x) i 0 ≤ 1
  unfolding code_rails
  code-bits zero i = omega arith
  code-bits (suc n) i =
      bits-append (code_rails n x) (rail_pair (x n)) (code-bits n) (pair-bits (x n)) i

-- Inputs that agree on the contacts have the same rails.
pub code_same : (x y : Input) (n : ℕ) → ((i : ℕ) → i < n → x i ≡ y i) → code_rails n x ≡ code_rails n y
unfolding code_rails
code_same x y zero h = refl
code_same x y (suc n) h = ap₂ ◌++◌ (code_same x y n (λ i l. h i (omega arith))) (ap rail_pair (h n (omega arith)))
