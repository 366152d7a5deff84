-- A count up to 2 ^ k is cut into single ones in k rounds.
use Prim.Native.Nat.{ℕ, zero, suc, ◌+◌, ◌-◌, ◌/◌, ◌^◌, ◌≤◌, max}
use native.Mathlib.Decide.{dec_le}
use native.Mathlib.Omega.{arith}
use Rattle.rules.specs.Blocks.{Cut, one, two, cut_within, cut}
use Rattle.rules.proofs.Cuts.{cut-one, cut-two}

-- The rounds in which a cut comes to single ones.
abbrev pub height : Cut → ℕ
height one = 0
height (two a b) = suc (max (height a) (height b))

within : (steps count k : ℕ) → count ≤ 2 ^ k → height (cut_within steps count) ≤ k
unfolding cut_within
within zero count k fits = omega arith
within (suc steps) count zero fits = rw (cut-one steps count (omega arith)) (omega arith)
within (suc steps) count (suc k) fits = go (dec_le 2 count) (λ m. within steps m k)
  where
    go : Dec (2 ≤ count) → ((m : ℕ) → m ≤ 2 ^ k → height (cut_within steps m) ≤ k) →
        height (cut_within (suc steps) count) ≤ suc k
    go (yes h) half =
        rw (cut-two steps count h)
        (omega (arith, half ((count + 1) / 2) (omega arith), half (count - (count + 1) / 2) (omega arith)))
    go (no h) half = rw (cut-one steps count (omega arith)) (omega arith)

pub height-cut : (count k : ℕ) → count ≤ 2 ^ k → height (cut count) ≤ k
unfolding cut
height-cut count k fits = within count count k fits
