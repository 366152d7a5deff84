-- `Product::crosses` meets its contract, by what the iterator's `any` says. Without a left factor that is always no term is.
use borrow.Author.Tests.{tests}
use Prim.Native.Nat.{ℕ, ◌<◌}
use native.Mathlib.Nat.{zero-add}
use native.Mathlib.Omega.{arith}
use mathlib.Core.Path.{◌≡◌, refl, sym, ◌∙◌}
use mathlib.Core.Bool.{Bool, true, false}
use lib.ListN.{length}
use Rattle.std.proofs.Common.{rules}
use Rattle.std.proofs.lemmas.Iterator.{cases_from_any, YieldsList-from_range}
use Rattle.std.proofs.lemmas.List.FromFn.{length-range_with_len, get_or-range_with_len}
use Rattle.std.specs.Bool.{MatchBool}
use Rattle.std.specs.List.{range_with_len, AllWithin, HoldsAt}
use Rattle.fields.specs.Bounded.{any}
use Rattle.fields.proofs.Bounded.{any_at, any-not}
use Rattle.rules.proofs.Products.{none-sure}
use Rattle.products.specs.Inner.Terms.{both_always}
use Rattle.products.proofs.product.Product.crosses.Goals as goal

-- What `any` answers over the first numbers.
any-is : (n : ℕ) (p : ℕ → Bool) (r : Bool) →
    MatchBool r ((k : ℕ) × (k < length (range_with_len 0 n)) × HoldsAt (λ w. p w ≡ true) (range_with_len 0 n) k)
    (AllWithin (λ w. p w ≡ false) (range_with_len 0 n) 0 (length (range_with_len 0 n))) →
    r ≡ any n p
any-is n p true (k, l, h) =
    let within : k < n = omega (arith, l, length-range_with_len 0 n) in
    let here = get_or-range_with_len 0 n k 0 within ∙ zero-add k in
    sym (any_at p n k within (rw here at (h 0)))
any-is n p false h =
    sym (any-not p n (λ i l.
    let here = get_or-range_with_len 0 n i 0 l ∙ zero-add i in
    rw here at (h i 0 (omega arith) (omega (arith, l, length-range_with_len 0 n)))))

pub returns-then-some : goal.returns-then-some
returns-then-some c =
    let test = both_always c.args.self.now.left.now c.args.self.now.right.now c.args.u c.args.v in
    any-is c.args.self.now.middle test c.any.result
    (cases_from_any _ _ c.any.result (λ w. test w ≡ true) (λ w. test w ≡ false) c.any.ensures.ran
    (YieldsList-from_range 0 c.args.self.now.middle c.args.self.now.middle refl (omega arith)) (λ x q k. search (rules, tests)) (λ x q k. search (rules, tests)))

pub returns-else-some : goal.returns-else-some
returns-else-some c =
    c.if-some.false
    ∙ sym (none-sure _ c.args.self.now.left.now c.args.self.now.right.now c.args.u c.args.v (sym c.requires.some_value ∙ c.if-some.false))
