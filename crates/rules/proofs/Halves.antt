-- A count of more than one is cut into the cuts of its halves.
use Prim.Native.Nat.{ℕ, zero, suc, ◌+◌, ◌-◌, ◌/◌, ◌≤◌}
use native.Mathlib.Decide.{dec_le}
use native.Mathlib.Omega.{arith}
use mathlib.Core.Path.{◌≡◌, refl, sym, ap₂, ◌∙◌}
use Rattle.rules.specs.Blocks.{one, two, cut_within, cut}
use Rattle.rules.proofs.Cuts.{cut-one, cut-two}

within_none : (steps : ℕ) → cut_within steps 0 ≡ one
unfolding cut_within
within_none zero = refl
within_none (suc steps) = cut-one steps 0 (omega arith)

-- Enough steps are enough.
within_same : (s t n : ℕ) → n ≤ s → n ≤ t → cut_within s n ≡ cut_within t n
within_same zero t n hs ht = let none : n ≡ 0 = omega arith in rw none (within_none 0 ∙ sym (within_none t))
within_same (suc s) zero n hs ht = let none : n ≡ 0 = omega arith in rw none (within_none (suc s) ∙ sym (within_none 0))
within_same (suc s) (suc t) n hs ht = go (dec_le 2 n) (within_same s t)
  where
    go : Dec (2 ≤ n) → ((m : ℕ) → m ≤ s → m ≤ t → cut_within s m ≡ cut_within t m) →
        cut_within (suc s) (n) ≡ cut_within (suc t) (n)
    go (yes h) half =
        cut-two s (n) h
        ∙ ap₂ two (half ((n + 1) / 2) (omega arith) (omega arith))
        (half (n - (n + 1) / 2) (omega arith) (omega arith))
        ∙ sym (cut-two t (n) h)
    go (no h) half = cut-one s (n) (omega arith) ∙ sym (cut-one t (n) (omega arith))

pub cut-single : (n : ℕ) → n ≡ 1 → cut n ≡ one
unfolding cut
cut-single n h = rw h (cut-one 0 1 (omega arith))

pub cut-halves : (n : ℕ) → 2 ≤ n → cut n ≡ two (cut ((n + 1) / 2)) (cut (n - (n + 1) / 2))
unfolding cut
cut-halves zero h = absurd (omega arith)
cut-halves (suc n) h =
    cut-two n (suc n) h
    ∙ ap₂ two (within_same n _ ((suc n + 1) / 2) (omega arith) (omega arith))
    (within_same n _ (suc n - (suc n + 1) / 2) (omega arith) (omega arith))
