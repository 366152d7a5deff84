-- The parts of the formulas: the largest width is the least that bounds them all, the logarithm the least power that is enough.
use Prim.Native.Nat.{ℕ, zero, suc, ◌+◌, ◌^◌, ◌≤◌, ◌<◌}
use native.Mathlib.Nat.{eq-or-lt_of_le, le_of_suc-le-suc, le_trans, le_of_lt, pow-le-pow_right}
use native.Mathlib.Omega.{arith}
use mathlib.Core.Path.{◌≡◌, refl, ap}
use mathlib.Core.Bool.{Bool, true, false, cond}
use mathlib.Core.Logic.{⊎_elim}
use borrow.Author.Tests.{leb-true, leb-false}
use lib.Dec.{leb}
use Rattle.diagram.specs.declared.Diagram.{Diagram}
use Rattle.diagram.specs.Diagram.{width}
use Rattle.rules.specs.Formulas.{widest_to, widest, least_power, log2up}

widest-to : (d : Diagram) (k l : ℕ) → l ≤ k → width d l ≤ widest_to d k
unfolding widest_to
widest-to d zero l h = let z : l ≡ 0 = omega arith in rw z (omega arith)
widest-to d (suc k) l h =
    ⊎_elim (λ e. rw e (omega arith)) (λ below. omega (arith, widest-to d k l (le_of_suc-le-suc below))) (eq-or-lt_of_le h)

pub widest-at : (d : Diagram) (l : ℕ) → l ≤ d.contacts → width d l ≤ widest d
unfolding widest
widest-at d l h = widest-to d d.contacts l h

least-to : (d : Diagram) (w k : ℕ) → ((l : ℕ) → l ≤ k → width d l ≤ w) → widest_to d k ≤ w
unfolding widest_to
least-to d w zero h = h 0 (omega arith)
least-to d w (suc k) h = omega (arith, least-to d w k (λ l b. h l (omega arith)), h (suc k) (omega arith))

pub widest-least : (d : Diagram) (w : ℕ) → ((l : ℕ) → l ≤ d.contacts → width d l ≤ w) → widest d ≤ w
unfolding widest
widest-least d w h = least-to d w d.contacts h

-- The search finds a power that is enough in time, and passes none.
module _ (n j : ℕ) (fits : n ≤ 2 ^ j) where
  enough : (steps k : ℕ) → j ≤ k + steps → n ≤ 2 ^ least_power steps k n
  unfolding least_power
  enough zero k h = le_trans fits (pow-le-pow_right (omega arith) (omega arith))
  enough (suc steps) k h = go (leb n (2 ^ k)) refl (enough steps (suc k) (omega arith))
    where
      go : (t : Bool) → leb n (2 ^ k) ≡ t → n ≤ 2 ^ least_power steps (suc k) n →
          n ≤ 2 ^ cond t k (least_power steps (suc k) n)
      go true e rest = leb-true n (2 ^ k) e
      go false e rest = rest

  least : (steps k : ℕ) → k ≤ j → least_power steps k n ≤ j
  unfolding least_power
  least zero k h = h
  least (suc steps) k h = go (leb n (2 ^ k)) refl (least steps (suc k))
    where
      go : (t : Bool) → leb n (2 ^ k) ≡ t → (suc k ≤ j → least_power steps (suc k) n ≤ j) →
          cond t k (least_power steps (suc k) n) ≤ j
      go true e rest = h
      go false e rest =
          rest (⊎_elim (λ p. absurd (omega (arith, leb-false n (2 ^ k) e, ap (λ i. 2 ^ i) p))) (λ l. l) (eq-or-lt_of_le h))

below_power : (n : ℕ) → n < 2 ^ n
below_power zero = omega arith
below_power (suc n) = omega (arith, below_power n)

pub log2-enough : (n : ℕ) → n ≤ 2 ^ log2up n
unfolding log2up
log2-enough n = enough n n (le_of_lt (below_power n)) n 0 (omega arith)

pub log2-least : (n k : ℕ) → n ≤ 2 ^ k → log2up n ≤ k
unfolding log2up
log2-least n k h = least n k h n 0 (omega arith)
