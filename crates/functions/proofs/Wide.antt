-- A level has more than eight functions if and only if nine fixings of the contacts before it leave different ones.
use Prim.Native.Nat.{ℕ, zero, suc, ◌+◌, ◌-◌, ◌<◌}
use native.Mathlib.Decide.{dec_lt}
use native.Mathlib.Omega.{arith}
use mathlib.Core.Path.{◌≡◌, refl, sym, ap, ◌∙◌}
use mathlib.Core.Bool.{Bool, true, false, ◌&&◌}
use borrow.Author.Tests.{leb-false, lt-leb}
use lib.ListN.{length, get_or}
use Rattle.fields.specs.Bounded.{all}
use Rattle.fields.proofs.Bounded.{all-not}
use Rattle.diagram.specs.Diagram.{Input, join}
use Rattle.functions.specs.Functions.{Function, constant, tree, functions_of, place, level_of, is_narrow, MoreThanEight}
use Rattle.functions.proofs.Levels.{level-own, level-remains, level-has}
use Rattle.functions.proofs.Numbers.{place_same}
use Rattle.functions.proofs.Pigeonhole.{pigeonhole}
use Rattle.functions.proofs.Trees.{Values, value_from, tree-value, tree_apart}

-- Where not all pass, one fails.
all-missed : (p : ℕ → Bool) (n : ℕ) → all n p ≡ false → (i : ℕ) × (i < n) × (p i ≡ false)
unfolding all
all-missed p zero e = absurd (let z : ◌≡◌ {A = ℕ} 0 1 = cc in omega arith)
all-missed p (suc n) e = go (all n p) refl e (all-missed p n)
  where
    go : (b : Bool) → all n p ≡ b → (b && p n) ≡ false → (all n p ≡ false → (i : ℕ) × (i < n) × (p i ≡ false)) →
        (i : ℕ) × (i < suc n) × (p i ≡ false)
    go true q e rest = (n, omega arith, e)
    go false q e rest = let (i, h, r) = rest q in (i, omega arith, r)

module _ (n m : ℕ) (v : ℕ → Input → ℕ) (values : (j : ℕ) → j < m → Values n (v j)) (l left : ℕ) (p : l + left ≡ n) where
  -- An output and a fixing that leave function u of the level, if it has so many.
  Chosen : ℕ → Type 0
  Chosen u =
      (j : ℕ) × (x : Input)
      × (u < length (level_of (functions_of n v) m l) →
      (j < m) × (get_or (level_of (functions_of n v) m l) u (constant 0) ≡ tree left l (v j) x))

  chosen : (u : ℕ) → Chosen u
  unfolding Chosen
  chosen u = go (dec_lt u (length (level_of (functions_of n v) m l)))
    where
      go : Dec (u < length (level_of (functions_of n v) m l)) → Chosen u
      go (yes h) = let (j, hj, x, e) = level-remains n m v values l left u (constant 0) p h in (j, x, λ _. (hj, e))
      go (no h) = (0, λ _. false, λ g. absurd (h g))

  -- A level's first nine functions, and the other way round: of nine functions in a level of eight two are the same.
  many : 8 < length (level_of (functions_of n v) m l) → MoreThanEight m v l
  unfolding Chosen
  many h = (
    λ i. (chosen i).0,
    λ i. (chosen i).1,
    λ i g. ((chosen i).2 (omega arith)).0,
    λ i k lt g.
        let (hi, ei) = (chosen i).2 (omega arith) in
        let (hk, ek) = (chosen k).2 (omega arith) in
        tree_apart n (v (chosen i).0) (v (chosen k).0) (values _ hi) (values _ hk) left l (chosen i).1 (chosen k).1 p (λ e.
        let same = sym (level-own (functions_of n v) m l i (constant 0) (omega arith))
        ∙ ap (place (level_of (functions_of n v) m l)) (ei ∙ e ∙ sym ek)
        ∙ level-own (functions_of n v) m l k (constant 0) (omega arith) in
        omega arith),
  )

  more : MoreThanEight m v l → 8 < length (level_of (functions_of n v) m l)
  more (output, fixed, bounded, told) = go (dec_lt 8 (length (level_of (functions_of n v) m l)))
    where
      rest : ℕ → Function
      rest i = tree left l (v (output i)) (fixed i)

      rest_in : (i : ℕ) → i < 9 → place (level_of (functions_of n v) m l) (rest i) < length (level_of (functions_of n v) m l)
      rest_in i h = level-has n m v values l left (output i) (fixed i) p (bounded i h)

      rest-same : (i k : ℕ) (x : Input) → i < 9 → k < 9 → rest i ≡ rest k →
          v (output i) (join l (fixed i) x) ≡ v (output k) (join l (fixed k) x)
      rest-same i k x hi hk e =
          sym (tree-value n (v (output i)) (values (output i) (bounded i hi)) left l (fixed i) x p)
          ∙ ap (λ (g : Function). value_from g x l) e
          ∙ tree-value n (v (output k)) (values (output k) (bounded k hk)) left l (fixed k) x p

      go : Dec (8 < length (level_of (functions_of n v) m l)) → 8 < length (level_of (functions_of n v) m l)
      go (yes h) = h
      go (no h) =
          let (i, k, lt, most, e) = pigeonhole 8 (λ i. place (level_of (functions_of n v) m l) (rest i))
          (λ i g. omega (arith, rest_in i (omega arith))) in
          let (x, ne) = told i k lt (omega arith) in
          absurd (ne (rest-same i k x (omega arith) (omega arith)
          (place_same (level_of (functions_of n v) m l) (rest i) (rest k) (rest_in i (omega arith)) (rest_in k (omega arith)) e)))

module _ (n m : ℕ) (v : ℕ → Input → ℕ) (values : (j : ℕ) → j < m → Values n (v j)) where
  pub wide : is_narrow n m (functions_of n v) ≡ false → (l : ℕ) × (l < n) × MoreThanEight m v l
  unfolding is_narrow
  wide e =
      let (l, h, missed) = all-missed _ n e in
      (l, h, many n m v values l (n - l) (omega arith) (leb-false _ _ missed))

  pub not_narrow : (l : ℕ) → l < n → MoreThanEight m v l → is_narrow n m (functions_of n v) ≡ false
  unfolding is_narrow
  not_narrow l h nine = all-not _ n l h (lt-leb _ _ (more n m v values l (n - l) (omega arith) nine))
