-- Numbers in five characters, sign by sign.
use borrow.Author.Tests.{ltb-true, ltb-false, lt-ltb, le-ltb}
use native.Mathlib.Numerals.{towards_suc}
use native.Mathlib.Omega.{arith}
use Prim.Native.Nat.{ℕ, ◌+◌, ◌/◌, ◌%◌}
use mathlib.Core.Path.{◌≡◌, refl}
use mathlib.Core.Bool.{Bool, true, false, cond}
use mathlib.Core.List.{List, [], ◌∷◌, ◌++◌}
use lib.Dec.{ltb}
use lib.ListN.{set}
use lib.Seq.{sets}
use Rattle.sheet.specs.Sheet.{decimal, in_five}
use Rattle.sheet.specs.Inner.Places.{sign_at}

-- The five signs of a number, from left to right.
abbrev pub signs : ℕ → List ℕ
signs x = sign_at 10000 x ∷ sign_at 1000 x ∷ sign_at 100 x ∷ sign_at 10 x ∷ (48 + x % 10) ∷ []

either : (b : Bool) → ◌≡◌ {A = List ℕ} (cond b [] []) []
either true = refl
either false = refl

module _ (x : ℕ) where
  two : x / 100 ≡ x / 10 / 10
  two = omega arith

  three : x / 1000 ≡ x / 10 / 10 / 10
  three = omega arith

  four : x / 10000 ≡ x / 10 / 10 / 10 / 10
  four = omega arith

  pub in-five : in_five x ≡ signs x
  unfolding in_five decimal
  in-five = go (ltb x 10) (ltb (x / 10) 10) (ltb (x / 10 / 10) 10) (ltb (x / 10 / 10 / 10) 10) refl refl refl refl
    where
      go : (a b c d : Bool) → ltb x 10 ≡ a → ltb (x / 10) 10 ≡ b → ltb (x / 10 / 10) 10 ≡ c → ltb (x / 10 / 10 / 10) 10 ≡ d →
          in_five x ≡ signs x
      go true b c d p q r s =
          let h = ltb-true x 10 p in
          simp (p, lt-ltb x 10000 (omega arith), lt-ltb x 1000 (omega arith), lt-ltb x 100 (omega arith))
      go false true c d p q r s =
          let h = ltb-true (x / 10) 10 q in
          simp (p, q, lt-ltb x 10000 (omega arith), lt-ltb x 1000 (omega arith), lt-ltb x 100 (omega arith))
      go false false true d p q r s =
          let g = ltb-false (x / 10) 10 q in
          let h = ltb-true (x / 10 / 10) 10 r in
          simp (p, q, r, two, lt-ltb x 10000 (omega arith), lt-ltb x 1000 (omega arith), le-ltb x 100 (omega arith))
      go false false false true p q r s =
          let g = ltb-false (x / 10 / 10) 10 r in
          let h = ltb-true (x / 10 / 10 / 10) 10 s in
          simp (p, q, r, s, two, three, lt-ltb x 10000 (omega arith), le-ltb x 1000 (omega arith), le-ltb x 100 (omega arith))
      go false false false false p q r s =
          let g = ltb-false (x / 10 / 10 / 10) 10 s in
          simp (
            p,
            q,
            r,
            s,
            either (ltb (x / 10 / 10 / 10 / 10) 10),
            two,
            three,
            four,
            le-ltb x 10000 (omega arith),
            le-ltb x 1000 (omega arith),
            le-ltb x 100 (omega arith),
          )

-- Six stores are the five signs and the one behind them.
pub sets-signs : (l : List ℕ) (i x behind : ℕ) →
    set (set (set (set (set (set l i (sign_at 10000 x)) (i + 1) (sign_at 1000 x)) (i + 2) (sign_at 100 x)) (i + 3) (sign_at 10 x)) (i + 4) (48 + x % 10)) (i + 5) behind
    ≡ sets l i (in_five x ++ (behind ∷ []))
sets-signs l i x behind = rw (in-five x) (simp towards_suc)
