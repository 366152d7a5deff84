-- Lists put together from runs of any lengths: how long they are, and what stands where.
use Prim.Native.Nat.{ℕ, zero, suc, ◌+◌, ◌-◌, ◌≤◌, ◌<◌}
use native.Mathlib.Nat.{eq-or-lt_of_le}
use native.Mathlib.Omega.{arith}
use mathlib.Core.Path.{◌≡◌, sym, ap, ap₂, ◌∙◌}
use mathlib.Core.Logic.{⊎_elim}
use mathlib.Core.List.{List, ◌++◌, flat_map}
use lib.ListN.{length, get_or, length-append, get_or-append}
use lib.Seq.{get_or-append-add}
use Rattle.fields.specs.Bounded.{listed}

-- The runs of the numbers from p on, so many. Each begins where the one before ends.
abbrev pub runs : (ℕ → List ℕ) → ℕ → ℕ → List ℕ
runs f count p = flat_map f (listed (λ i. i) count p)

module _ (f : ℕ → List ℕ) (start : ℕ → ℕ) (next : (i : ℕ) → start (suc i) ≡ start i + length (f i)) where
  pub runs-length : (count p : ℕ) → start p + length (runs f count p) ≡ start (p + count)
  unfolding flat_map listed
  runs-length zero p = let e : start p ≡ start (p + 0) = ap start (omega arith) in omega arith
  runs-length (suc count) p =
      let e : start (suc p + count) ≡ start (p + suc count) = ap start (omega arith) in
      omega (arith, next p, runs-length count (suc p), length-append (f p) (runs f count (suc p)))

  pub rises : (p i : ℕ) → p ≤ i → start p ≤ start i
  rises p i h =
      let e : start (p + (i - p)) ≡ start i = ap start (omega arith) in
      omega (arith, runs-length (i - p) p)

  pub run_at : (count p i k q : ℕ) → p ≤ i → i < p + count → k < length (f i) → start p + q ≡ start i + k →
      get_or (runs f count p) q 0 ≡ get_or (f i) k 0
  unfolding flat_map listed
  run_at zero p i k q low high h e = absurd (omega arith)
  run_at (suc count) p i k q low high h e =
      ⊎_elim here (λ more. there more (run_at count (suc p) i k (q - length (f p)) more (omega arith) h)) (eq-or-lt_of_le low)
    where
      here : p ≡ i → get_or (f p ++ runs f count (suc p)) q 0 ≡ get_or (f i) k 0
      here same =
          let s = ap start same in
          let n = ap (λ (j : ℕ). length (f j)) same in
          let t : q ≡ k = omega arith in
          get_or-append (f p) (runs f count (suc p)) 0 q (omega arith) ∙ ap₂ (λ (a b : ℕ). get_or (f a) b 0) same t

      there : p < i → (start (suc p) + (q - length (f p)) ≡ start i + k →
          get_or (runs f count (suc p)) (q - length (f p)) 0 ≡ get_or (f i) k 0) →
          get_or (f p ++ runs f count (suc p)) q 0 ≡ get_or (f i) k 0
      there more rest =
          let n = next p in
          let r = rises (suc p) i more in
          let s : length (f p) + (q - length (f p)) ≡ q = omega arith in
          ap (λ (a : ℕ). get_or (f p ++ runs f count (suc p)) a 0) (sym s)
          ∙ get_or-append-add (f p) (runs f count (suc p)) (q - length (f p)) 0
          ∙ rest (omega arith)
