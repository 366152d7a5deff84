-- A cut of a count has as many single ones as the count says.
use Prim.Native.Nat.{ℕ, zero, suc, ◌+◌, ◌-◌, ◌/◌, ◌≤◌}
use native.Mathlib.Decide.{dec_le}
use native.Mathlib.Omega.{arith}
use mathlib.Core.Path.{◌≡◌}
use borrow.Author.Tests.{le-leb, lt-leb}
use Rattle.rules.specs.Blocks.{Cut, one, two, size, cut_within, cut}

pub size-pos : (c : Cut) → 1 ≤ size c
size-pos one = omega arith
size-pos (two a b) = omega (arith, size-pos a)

module _ (steps count : ℕ) where
  pub cut-one : count ≤ 1 → cut_within (suc steps) count ≡ one
  unfolding cut_within
  cut-one h = rw (le-leb count 1 h, cut_within)

  pub cut-two : 2 ≤ count →
      cut_within (suc steps) count ≡ two (cut_within steps ((count + 1) / 2)) (cut_within steps (count - (count + 1) / 2))
  unfolding cut_within
  cut-two h = rw (lt-leb count 1 h, cut_within)

within : (steps count : ℕ) → 1 ≤ count → count ≤ steps → size (cut_within steps count) ≡ count
within zero count low high = absurd (omega arith)
within (suc steps) count low high = go (dec_le 2 count) (within steps)
  where
    go : Dec (2 ≤ count) → ((m : ℕ) → 1 ≤ m → m ≤ steps → size (cut_within steps m) ≡ m) →
        size (cut_within (suc steps) count) ≡ count
    go (yes h) half =
        rw (cut-two steps count h)
        (omega (
          arith,
          half ((count + 1) / 2) (omega arith) (omega arith),
          half (count - (count + 1) / 2) (omega arith) (omega arith),
        ))
    go (no h) half = rw (cut-one steps count (omega arith)) (omega arith)

pub size-cut : (count : ℕ) → 1 ≤ count → size (cut count) ≡ count
unfolding cut
size-cut count low = within count count low (omega arith)
