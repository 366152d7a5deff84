-- Bytes cut into chunks of one size, and what the chunks name.
use native.Mathlib.Omega.{arith}
use Prim.Native.Nat.{ℕ, zero, suc, ◌+◌, ◌*◌, ◌/◌, ◌<◌}
use mathlib.Core.Path.{◌≡◌, refl, sym, ap, ap₂, ◌∙◌}
use mathlib.Core.Bool.{Bool, true, false}
use mathlib.Core.List.{List}
use lib.ListN.{length, get_or, drop}
use Rattle.std.proofs.lemmas.List.{get_or-take, get_or-drop}
use Rattle.std.specs.Bool.{MatchBool}
use Rattle.std.specs.List.{AllWithin, HoldsAt}
use Rattle.std.specs.Simd.{first_chunks}
use Rattle.fields.specs.Bounded.{all}
use Rattle.fields.specs.Fields.{number_of}
use Rattle.fields.proofs.Bounded.{all_of, all-not}
use Rattle.netlist.specs.Netlist.{gate_at, pair_at, hold_at}

-- Byte j of chunk g.
pub chunk-at : (n k : ℕ) (v : List ℕ) (g : ℕ) (d : List ℕ) (j i : ℕ) → g < k → j < n → i ≡ n * g + j →
    get_or (get_or (first_chunks n k v) g d) j 0 ≡ get_or v i 0
chunk-at n zero v g d j i h l e = absurd (omega arith)
chunk-at n (suc k) v zero d j i h l e = get_or-take n v j 0 l ∙ ap (λ (p : ℕ). get_or v p 0) (omega arith)
chunk-at n (suc k) v (suc g) d j i h l e =
    chunk-at n k (drop n v) g d j (n * g + j) (omega arith) l refl ∙ get_or-drop n v (n * g + j) 0
    ∙ ap (λ (p : ℕ). get_or v p 0) (omega arith)

-- Chunk g names gate g, output g or hold g, where the chunks are the whole ones of these bytes.
module _ (v : List ℕ) {g : ℕ} (d : List ℕ) {chunks : List (List ℕ)} where
  byte : (n : ℕ) → chunks ≡ first_chunks n (length v / n) v → g < length v / n → (j i : ℕ) → j < n → i ≡ n * g + j →
      get_or (get_or chunks g d) j 0 ≡ get_or v i 0
  byte n front h j i l e = ap (λ (cs : List (List ℕ)). get_or (get_or cs g d) j 0) front ∙ chunk-at n (length v / n) v g d j i h l e

  pub gate-chunk : chunks ≡ first_chunks 5 (length v / 5) v → g < length v / 5 → gate_at (get_or chunks g d) 0 ≡ gate_at v g
  gate-chunk front h =
      let at = byte 5 front h in
      let kind = at 0 (5 * g) (omega arith) (omega arith) in
      let left = ap₂ number_of (at 1 (5 * g + 1) (omega arith) (omega arith)) (at 2 (5 * g + 1 + 1) (omega arith) (omega arith)) in
      let right = ap₂ number_of (at 3 (5 * g + 3) (omega arith) (omega arith)) (at 4 (5 * g + 3 + 1) (omega arith) (omega arith)) in
      λ i. record { kind = kind i; left = left i; right = right i }

  pub pair-chunk : chunks ≡ first_chunks 4 (length v / 4) v → g < length v / 4 → pair_at (get_or chunks g d) 0 ≡ pair_at v g
  pair-chunk front h =
      let at = byte 4 front h in
      let on = ap₂ number_of (at 0 (4 * g) (omega arith) (omega arith)) (at 1 (4 * g + 1) (omega arith) (omega arith)) in
      let off = ap₂ number_of (at 2 (4 * g + 2) (omega arith) (omega arith)) (at 3 (4 * g + 2 + 1) (omega arith) (omega arith)) in
      λ i. record { on = on i; off = off i }

  pub hold-chunk : chunks ≡ first_chunks 3 (length v / 3) v → g < length v / 3 → hold_at (get_or chunks g d) 0 ≡ hold_at v g
  hold-chunk front h =
      let at = byte 3 front h in
      let line = ap₂ number_of (at 0 (3 * g) (omega arith) (omega arith)) (at 1 (3 * g + 1) (omega arith) (omega arith)) in
      let value = at 2 (3 * g + 2) (omega arith) (omega arith) in
      λ i. record { line = line i; value = value i }

-- What an iterator's `all` answers, said of so many numbers: each place passes if what stands there does, and fails if it fails.
module _ {A : Type 0} (Yes No : A → Type 0) (xs : List A) (d : A) (p : ℕ → Bool)
    (yes : (i : ℕ) → i < length xs → Yes (get_or xs i d) → p i ≡ true) (no : (i : ℕ) → i < length xs → No (get_or xs i d) → p i ≡ false) where
  pub all-cases : (r : Bool) → MatchBool r (AllWithin Yes xs 0 (length xs)) ((k : ℕ) × (k < length xs) × HoldsAt No xs k) →
      r ≡ all (length xs) p
  all-cases true h = sym (all_of p (length xs) (λ i l. yes i l (h i d (omega arith) l)))
  all-cases false h = let (k, l, n) = h in sym (all-not p (length xs) k l (no k l (n d)))
