-- The OR tree of some lines shows 1 exactly if one of them does, for every count of lines.
use Prim.Native.Nat.{ℕ, ◌+◌, ◌-◌, ◌<◌}
use native.Mathlib.Decide.{dec_lt}
use native.Mathlib.Omega.{arith}
use mathlib.Core.Path.{◌≡◌}
use mathlib.Core.List.{List, [], ◌∷◌}
use mathlib.Core.Logic.{◌⊎◌, inl, inr, ⊎_map}
use lib.ListN.{length, get_or, take, drop}
use lib.Seq.{get_or-take, get_or-drop}
use Rattle.rules.specs.Make.{gate}
use Rattle.rules.specs.Blocks.{Cut, size, cut, or_tree, joined}
use Rattle.rules.proofs.Makes.{Ok, ok-return, ok-bind, ok-gate, ok-tree}
use Rattle.rules.proofs.Valuations.{Down, Up, shows}
use Rattle.rules.proofs.Cuts.{size-cut}

-- One of the first lines of a list shows 1.
abbrev pub Some : (ℕ → ℕ) → ℕ → List ℕ → Type 0
Some ν count ls = (i : ℕ) × (i < count) × (ν (get_or ls i 0) ≡ 1)

module _ (ν : ℕ → ℕ) where
  join : (k m : ℕ) (ls : List ℕ) → Some ν k (take k ls) ⊎ Some ν m (drop k ls) → Some ν (k + m) ls
  join k m ls (inl (i, h, e)) = (i, omega arith, rw (get_or-take k ls i 0 h) at e)
  join k m ls (inr (i, h, e)) = (k + i, omega arith, rw (get_or-drop k ls i 0) at e)

  split : (k m : ℕ) (ls : List ℕ) → Some ν (k + m) ls → Some ν k (take k ls) ⊎ Some ν m (drop k ls)
  split k m ls (i, h, e) = go (dec_lt i k)
    where
      go : Dec (i < k) → Some ν k (take k ls) ⊎ Some ν m (drop k ls)
      go (yes l) = inl (i, l, rw (get_or-take k ls i 0 l) e)
      go (no l) =
          let p : k + (i - k) ≡ i = omega arith in inr (i - k, omega arith, rw (get_or-drop k ls (i - k) 0, p) e)

  pub tree-down : (c : Cut) (ls : List ℕ) → Ok (Down ν) (or_tree c ls) (λ y. ν y ≡ 1 → Some ν (size c) ls)
  tree-down =
      ok-tree 0 (gate 1) (λ k ls y. ν y ≡ 1 → Some ν k ls) (λ ls e. (0, omega arith, e))
      (λ k m ls x y left right. ok-gate (λ z down e. join k m ls (⊎_map left right (down e))))

  pub tree-up : (c : Cut) (ls : List ℕ) → Ok (Up ν) (or_tree c ls) (λ y. Some ν (size c) ls → ν y ≡ 1)
  tree-up =
      ok-tree 0 (gate 1) (λ k ls y. Some ν k ls → ν y ≡ 1) (λ ls (i, h, e). let p : i ≡ 0 = omega arith in rw p at e)
      (λ k m ls x y left right. ok-gate (λ z up s. up (⊎_map left right (split k m ls s))))

  pub joined-down : (ls : List ℕ) → Ok (Down ν) (joined ls) (λ y. shows ν y ≡ 1 → Some ν (length ls) ls)
  unfolding joined
  joined-down [] = ok-return (λ e. absurd (omega arith))
  joined-down (x ∷ ls) =
      let c = size-cut (length (x ∷ ls)) (omega arith) in
      ok-bind (tree-down (cut (length (x ∷ ls))) (x ∷ ls)) (λ y down.
      ok-return (λ e. rw c at (down e)))

  pub joined-up : (ls : List ℕ) → Ok (Up ν) (joined ls) (λ y. Some ν (length ls) ls → shows ν y ≡ 1)
  unfolding joined
  joined-up [] = ok-return (λ (i, h, e). absurd (omega arith))
  joined-up (x ∷ ls) =
      let c = size-cut (length (x ∷ ls)) (omega arith) in
      ok-bind (tree-up (cut (length (x ∷ ls))) (x ∷ ls)) (λ y up.
      ok-return (λ s. up (rw c s)))
