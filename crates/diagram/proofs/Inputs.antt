-- A contact's value as a bit; inputs joined at a contact, and the number of an input.
use Prim.Native.Nat.{ℕ, zero, suc, ◌+◌, ◌*◌, ◌/◌, ◌%◌, ◌^◌, ◌≤◌, ◌<◌}
use native.Mathlib.Nat.{add_comm}
use native.Mathlib.Numerals.{add-one}
use native.Mathlib.Omega.{arith}
use mathlib.Core.Path.{◌≡◌, refl, ◌∙◌}
use mathlib.Core.Bool.{Bool, true, false}
use borrow.Author.Tests.{lt-ltb, le-ltb, eq-eqb, ne_eqb}
use lib.Pow.{shr-shr}
use Rattle.diagram.specs.Diagram.{bit, Input, input_of, join}

pub bit-true : (b : Bool) → bit b ≡ 1 → b ≡ true
bit-true true e = refl
bit-true false e = absurd (omega arith)

module _ (h : ℕ) (x y : Input) (i : ℕ) where
  pub join-below : i < h → join h x y i ≡ x i
  unfolding join
  join-below l = simp (lt-ltb i h l)

  pub join-from : h ≤ i → join h x y i ≡ y i
  unfolding join
  join-from l = simp (le-ltb i h l)

-- The lowest bit of a number is the value of contact 0, its half the number of the others' values.
first : (b : Bool) (a : ℕ) → input_of (bit b + 2 * a) 0 ≡ b
unfolding input_of
first false a = ne_eqb ((0 + 2 * a) / 1 % 2) 1 (omega arith)
first true a = eq-eqb ((1 + 2 * a) / 1 % 2) 1 (omega arith)

half : (b : Bool) (a : ℕ) → (bit b + 2 * a) / 2 ≡ a
half false a = omega arith
half true a = omega arith

rest : (b : Bool) (a i : ℕ) → input_of (bit b + 2 * a) (suc i) ≡ input_of a i
unfolding input_of
rest b a i = rw (← add-one i, add_comm i 1, ← shr-shr (bit b + 2 * a) 1 i, half b a)

double : (b : Bool) (a n : ℕ) → a < 2 ^ n → bit b + 2 * a < 2 ^ suc n
double false a n l = omega arith
double true a n l = omega arith

-- A number below 2^n whose input has the values of the first n contacts.
pub input_number : (x : Input) (n : ℕ) → (a : ℕ) × (a < 2 ^ n) × ((i : ℕ) → i < n → input_of a i ≡ x i)
input_number x zero = (0, omega arith, λ i l. absurd (omega arith))
input_number x (suc n) = go (input_number (λ i. x (suc i)) n)
  where
    go : (a : ℕ) × (a < 2 ^ n) × ((i : ℕ) → i < n → input_of a i ≡ x (suc i)) →
        (a : ℕ) × (a < 2 ^ suc n) × ((i : ℕ) → i < suc n → input_of a i ≡ x i)
    go (a, l, e) = (
      bit (x 0) + 2 * a,
      double (x 0) a n l,
      elim [ zero ↦ λ _. first (x 0) a | suc i ↦ λ h. rest (x 0) a i ∙ e i (omega arith) ],
    )
