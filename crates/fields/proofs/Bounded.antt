-- The laws of `all` and `any`: what a loop that counts up adds at each turn, and what the answer says of each number.
use Prim.Native.Nat.{ℕ, zero, suc, ◌+◌, ◌<◌}
use native.Mathlib.Nat.{eq-or-lt_of_le, le_of_suc-le-suc, not-suc-le-zero, add-zero, add-suc}
use native.Mathlib.Numerals.{add-one}
use native.Mathlib.Omega.{arith}
use mathlib.Core.Path.{◌≡◌, refl, sym, ap, ap₂, ◌∙◌}
use mathlib.Core.Bool.{Bool, true, false, ◌&&◌, ◌||◌, and-true, and-false, and_assoc, or-true}
use mathlib.Core.Logic.{⊎_elim}
use Rattle.fields.specs.Bounded.{all, any}

pub and_left : (a b : Bool) → (a && b) ≡ true → a ≡ true
and_left true b e = refl
and_left false b e = e

pub and_right : (a b : Bool) → (a && b) ≡ true → b ≡ true
and_right true b e = e
and_right false b e = absurd (let z : ◌≡◌ {A = ℕ} 0 1 = cc in omega arith)

module _ (p : ℕ → Bool) where
  pub all_none : all 0 p ≡ true
  unfolding all
  all_none = refl

  pub all_more : (k : ℕ) → all k p ≡ true → p k ≡ true → all (k + 1) p ≡ true
  unfolding all
  all_more k h e = rw (add-one k) (ap₂ ◌&&◌ h e)

  pub all-last : (k : ℕ) → all (k + 1) p ≡ (all k p && p k)
  unfolding all
  all-last k = rw (add-one k) refl

  pub all-at : (n : ℕ) → all n p ≡ true → (i : ℕ) → i < n → p i ≡ true
  unfolding all
  all-at zero h i l = absurd (not-suc-le-zero l)
  all-at (suc n) h i l =
      ⊎_elim (λ e. ap p e ∙ and_right (all n p) (p n) h) (λ m. all-at n (and_left (all n p) (p n) h) i m)
      (eq-or-lt_of_le (le_of_suc-le-suc l))

  pub all-not : (n i : ℕ) → i < n → p i ≡ false → all n p ≡ false
  unfolding all
  all-not zero i l e = absurd (not-suc-le-zero l)
  all-not (suc n) i l e =
      ⊎_elim (λ q. ap (λ (b : Bool). all n p && b) (sym (ap p q) ∙ e) ∙ and-false (all n p))
      (λ m. ap (λ (b : Bool). b && p n) (all-not n i m e))
      (eq-or-lt_of_le (le_of_suc-le-suc l))

  pub all_of : (n : ℕ) → ((i : ℕ) → i < n → p i ≡ true) → all n p ≡ true
  unfolding all
  all_of zero h = refl
  all_of (suc n) h = ap₂ ◌&&◌ (all_of n (λ i l. h i (omega arith))) (h n (omega arith))

  pub all-add : (k m : ℕ) → all (k + m) p ≡ (all k p && all m (λ i. p (k + i)))
  unfolding all
  all-add k zero = rw (add-zero k) (sym (and-true (all k p)))
  all-add k (suc m) =
      rw (add-suc k m)
      (ap (λ (b : Bool). b && p (k + m)) (all-add k m) ∙ and_assoc (all k p) (all m (λ i. p (k + i))) (p (k + m)))

  pub all_found : (n : ℕ) → all n p ≡ false → (i : ℕ) × (i < n) × (p i ≡ false)
  unfolding all
  all_found zero e = absurd (let z : ◌≡◌ {A = ℕ} 0 1 = cc in omega arith)
  all_found (suc n) e = go (all n p) (p n) refl refl e (all_found n)
    where
      go : (a b : Bool) → all n p ≡ a → p n ≡ b → (a && b) ≡ false →
          (all n p ≡ false → (i : ℕ) × (i < n) × (p i ≡ false)) → (i : ℕ) × (i < suc n) × (p i ≡ false)
      go false b ea eb e ih = let r = ih ea in (r.0, omega arith, r.2)
      go true false ea eb e ih = (n, omega arith, eb)
      go true true ea eb e ih = absurd (let z : ◌≡◌ {A = ℕ} 0 1 = cc in omega arith)

  pub any_none : any 0 p ≡ false
  unfolding any
  any_none = refl

  pub any_last : (k : ℕ) → any (k + 1) p ≡ (any k p || p k)
  unfolding any
  any_last k = rw (add-one k) refl

  pub any-more : (k : ℕ) → any k p ≡ false → p k ≡ false → any (k + 1) p ≡ false
  unfolding any
  any-more k h e = rw (add-one k) (ap₂ ◌||◌ h e)

  pub any_at : (n i : ℕ) → i < n → p i ≡ true → any n p ≡ true
  unfolding any
  any_at zero i l e = absurd (not-suc-le-zero l)
  any_at (suc n) i l e =
      ⊎_elim (λ q. ap (λ (b : Bool). any n p || b) (sym (ap p q) ∙ e) ∙ or-true (any n p))
      (λ m. ap (λ (b : Bool). b || p n) (any_at n i m e))
      (eq-or-lt_of_le (le_of_suc-le-suc l))

  pub any-not : (n : ℕ) → ((i : ℕ) → i < n → p i ≡ false) → any n p ≡ false
  unfolding any
  any-not zero h = refl
  any-not (suc n) h = ap₂ ◌||◌ (any-not n (λ i l. h i (omega arith))) (h n (omega arith))

  pub none-at : (n : ℕ) → any n p ≡ false → (i : ℕ) → i < n → p i ≡ false
  none-at n e i l = go (p i) refl
    where
      go : (b : Bool) → p i ≡ b → p i ≡ false
      go true t = absurd (let f = sym e ∙ any_at n i l t in let z : ◌≡◌ {A = ℕ} 0 1 = cc in omega arith)
      go false t = t

  pub any_found : (n : ℕ) → any n p ≡ true → (i : ℕ) × (i < n) × (p i ≡ true)
  unfolding any
  any_found zero e = absurd (let z : ◌≡◌ {A = ℕ} 0 1 = cc in omega arith)
  any_found (suc n) e = go (any n p) (p n) refl refl e (any_found n)
    where
      go : (a b : Bool) → any n p ≡ a → p n ≡ b → (a || b) ≡ true →
          (any n p ≡ true → (i : ℕ) × (i < n) × (p i ≡ true)) → (i : ℕ) × (i < suc n) × (p i ≡ true)
      go true b ea eb e ih = let r = ih ea in (r.0, omega arith, r.2)
      go false true ea eb e ih = (n, omega arith, eb)
      go false false ea eb e ih = absurd (let z : ◌≡◌ {A = ℕ} 0 1 = cc in omega arith)

pub all-agree : (n : ℕ) (p q : ℕ → Bool) → ((i : ℕ) → i < n → p i ≡ q i) → all n p ≡ all n q
unfolding all
all-agree zero p q h = refl
all-agree (suc n) p q h = ap₂ ◌&&◌ (all-agree n p q (λ i l. h i (omega arith))) (h n (omega arith))

pub any-agree : (n : ℕ) (p q : ℕ → Bool) → ((i : ℕ) → i < n → p i ≡ q i) → any n p ≡ any n q
unfolding any
any-agree zero p q h = refl
any-agree (suc n) p q h = ap₂ ◌||◌ (any-agree n p q (λ i l. h i (omega arith))) (h n (omega arith))
