-- Mentions in turn: what each mention adds to the nodes brought, and what a run of them comes to.
use Prim.Native.Nat.{ℕ, zero, suc, ◌+◌, max, ◌≤◌, ◌<◌}
use native.Mathlib.Numerals.{add-one}
use native.Mathlib.Omega.{arith}
use mathlib.Core.Path.{◌≡◌, refl, ap, ap₂}
use mathlib.Core.Bool.{Bool, true, false, ◌&&◌}
use borrow.Author.Tests.{lt-leb}
use lib.Dec.{leb, eqb}
use Rattle.fields.specs.Bounded.{all}
use Rattle.fields.proofs.Bounded.{all-agree}
use Rattle.diagram.specs.Questions.{brought, in_turn}
use Rattle.diagram.proofs.Loops.{all_end, all-broken}

module _ (f : ℕ → ℕ) where
  -- Whether mention i is of a node mentioned before or of the next number.
  abbrev pub is_turn : ℕ → Bool
  is_turn i = leb (f i) (brought f i)

  pub brought-none : brought f 0 ≡ 0
  unfolding brought
  brought-none = refl

  pub brought-more : (k : ℕ) → brought f (k + 1) ≡ max (brought f k) (f k + 1)
  unfolding brought
  brought-more k = rw (add-one k, add-one (f k))

  pub turn-broken : (n w k : ℕ) → k < n → brought f k < f k → false ≡ in_turn f n w
  turn-broken n w k h g = ap (λ (b : Bool). b && eqb (brought f n) w) (all-broken is_turn n k h (lt-leb _ _ g))

  pub turn_end : (n w k : ℕ) → k ≤ n → n ≤ k → all k is_turn ≡ true → eqb (brought f k) w ≡ in_turn f n w
  turn_end n w k h g e =
      let q : k ≡ n = omega arith in
      rw q (ap (λ (b : Bool). b && eqb (brought f n) w) (all_end is_turn n k h g e))

-- It depends on the mentions alone.
brought-agree : (k : ℕ) (f g : ℕ → ℕ) → ((i : ℕ) → i < k → f i ≡ g i) → brought f k ≡ brought g k
unfolding brought
brought-agree zero f g h = refl
brought-agree (suc k) f g h =
    ap₂ (λ (b v : ℕ). max b (suc v)) (brought-agree k f g (λ i l. h i (omega arith))) (h k (omega arith))

pub in_turn-agree : (k w : ℕ) (f g : ℕ → ℕ) → ((i : ℕ) → i < k → f i ≡ g i) → in_turn f k w ≡ in_turn g k w
in_turn-agree k w f g h =
    ap₂ ◌&&◌
    (all-agree k _ _ (λ i l. ap₂ leb (h i l) (brought-agree i f g (λ j m. h j (omega arith)))))
    (ap (λ (n : ℕ). eqb n w) (brought-agree k f g h))
