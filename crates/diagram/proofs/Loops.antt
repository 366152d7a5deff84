-- What a loop that tests number after number knows where it ends, and where it breaks off.
use Prim.Native.Nat.{ℕ, ◌≤◌, ◌<◌}
use native.Mathlib.Nat.{le_antisymm}
use mathlib.Core.Path.{◌≡◌, sym}
use mathlib.Core.Bool.{Bool, true, false}
use Rattle.fields.specs.Bounded.{all}
use Rattle.fields.proofs.Bounded.{all-not}

module _ (p : ℕ → Bool) (n k : ℕ) where
  pub all_end : k ≤ n → n ≤ k → all k p ≡ true → true ≡ all n p
  all_end h g e = rw (le_antisymm h g) at (sym e)

  pub all-broken : k < n → p k ≡ false → false ≡ all n p
  all-broken h e = sym (all-not p n k h e)
