-- What a yes to each of questions 13 and 14 says.
use borrow.Author.Tests.{eqb-true, leb-true}
use native.Mathlib.Decide.{dec_lt}
use native.Mathlib.Omega.{arith}
use Prim.Native.Nat.{ℕ, ◌*◌, ◌%◌, ◌≤◌}
use mathlib.Core.Path.{◌≡◌, refl}
use mathlib.Core.Bool.{Bool, true, false, ◌&&◌, cond}
use mathlib.Core.List.{List}
use mathlib.Core.Logic.{by_cases}
use lib.Dec.{eqb}
use lib.ListN.{length, get_or, get_or-eq_default}
use Rattle.fields.specs.Bounded.{all}
use Rattle.fields.proofs.Bounded.{all-at}
use Rattle.drive.specs.declared.Rails.{Rails}
use Rattle.drive.specs.declared.Rails.TheVariants.{Driven, Undriven}
use Rattle.drive.specs.declared.Holds.{Holds}
use Rattle.drive.specs.declared.Holds.TheVariants.{Ordered, Disordered}
use Rattle.drive.specs.Questions.{is_bit, rails_of, rails_number, are_holds, are_ordered, order_of, holds_number}

-- The yes of each question.
driven-by : (n : ℕ) (rails : List ℕ) → rails_of n rails ≡ Driven → (eqb (length rails) (2 * n) ≡ true) × (all (2 * n) (is_bit rails) ≡ true)
driven-by n rails = go (eqb (length rails) (2 * n)) (all (2 * n) (is_bit rails))
  where
    go : (a b : Bool) → cond (a && b) Driven Undriven ≡ Driven → (a ≡ true) × (b ≡ true)
    go true true e = (refl, refl)
    go true false e = absurd (let z : ◌≡◌ {A = ℕ} 0 1 = cc in omega arith)
    go false b e = absurd (let z : ◌≡◌ {A = ℕ} 0 1 = cc in omega arith)

pub driven : (n : ℕ) (rails : List ℕ) → rails_of n rails ≡ Driven → length rails ≡ 2 * n
driven n rails e = eqb-true _ _ (driven-by n rails e).0

pub driven-bits : (n : ℕ) (rails : List ℕ) → rails_of n rails ≡ Driven → (i : ℕ) → get_or rails i 0 ≤ 1
driven-bits n rails e i =
    let count = driven n rails e in
    by_cases (dec_lt i (2 * n)) (λ l. leb-true _ _ (all-at (is_bit rails) (2 * n) (driven-by n rails e).1 i l))
    (λ past. let none : get_or rails i 0 ≡ 0 = get_or-eq_default rails 0 (omega arith) in omega arith)

pub ordered : (first lines : ℕ) (holds : List ℕ) → order_of first lines holds ≡ Ordered → are_holds first lines holds ≡ true
unfolding are_ordered
ordered first lines holds = go (eqb (length holds % 3) 0) (are_holds first lines holds)
  where
    go : (a b : Bool) → cond (a && b) Ordered Disordered ≡ Ordered → b ≡ true
    go true true e = refl
    go true false e = absurd (let z : ◌≡◌ {A = ℕ} 0 1 = cc in omega arith)
    go false b e = absurd (let z : ◌≡◌ {A = ℕ} 0 1 = cc in omega arith)

pub driven-zero : (r : Rails) → rails_number r ≡ 0 → r ≡ Driven
driven-zero Driven e = refl
driven-zero Undriven e = absurd (omega arith)

pub ordered-zero : (h : Holds) → holds_number h ≡ 0 → h ≡ Ordered
ordered-zero Ordered e = refl
ordered-zero Disordered e = absurd (omega arith)
