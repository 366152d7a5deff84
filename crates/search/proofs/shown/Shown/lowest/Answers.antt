-- `shown::Shown::lowest` meets its contract: the first output that `find` finds is the lowest, and some output is found.
use borrow.Author.Tests.{tests}
use Prim.Native.Nat.{ℕ, ◌/◌, ◌≤◌, ◌<◌}
use native.Mathlib.Omega.{arith}
use mathlib.Core.Path.{◌≡◌, refl, sym, ap, ◌∙◌}
use mathlib.Core.Bool.{Bool, true, false, true≢false}
use mathlib.Core.List.{List}
use lib.ListN.{length}
use Rattle.std.proofs.Common.{rules, Option, Some, None}
use Rattle.std.proofs.lemmas.Iterator.{first_from_Range}
use Rattle.std.specs.Option.{MatchOption}
use Rattle.netlist.specs.Netlist.{pairs_of}
use Rattle.netlist.proofs.Lists.{length_pairs}
use Rattle.faults.specs.Betrayal.{no_code, some_no_code, lowest_no_code}
use Rattle.fields.proofs.Least.{least-is, least_first}
use Rattle.search.proofs.shown.Shown.lowest.Goals.{After-find}
use Rattle.search.proofs.shown.Shown.lowest.Goals as goal

-- Whether an output agrees.
abbrev passes : List ℕ → List ℕ → ℕ → Bool
passes pairs lines = no_code (pairs_of pairs) lines

-- What `find` finds is the lowest, since there is one.
found-is : (pairs lines : List ℕ) (r : Option ℕ) → some_no_code (pairs_of pairs) lines ≡ true →
    MatchOption r ((k : ℕ) → 0 ≤ k → k < length pairs / 4 → passes pairs lines k ≡ false)
    (λ i.
    (0 ≤ i) × (i < length pairs / 4) × (passes pairs lines i ≡ true) × ((k : ℕ) → 0 ≤ k → k < i → passes pairs lines k ≡ false)) →
    r ≡ Some (lowest_no_code (pairs_of pairs) lines)
found-is pairs lines None some none =
    let first = least_first (passes pairs lines) (length (pairs_of pairs)) some in
    absurd (true≢false (sym first.passes ∙ none _ (omega arith) (omega (arith, first.below, length_pairs pairs))))
found-is pairs lines (Some i) some (_, below, yes!, none) =
    ap Some
    (least-is (passes pairs lines)
    (record { below = omega (arith, length_pairs pairs); passes = yes!; none = λ k l. none k (omega arith) l }))

found : (c : After-find) → c.find.result ≡ Some (lowest_no_code (pairs_of c.args.self.pairs.now) c.args.self.lines.now)
found c =
    let tell = passes c.args.self.pairs.now c.args.self.lines.now in
    found-is c.args.self.pairs.now c.args.self.lines.now c.find.result c.requires
    (first_from_Range _ _ _ c.find.result (λ i. tell i ≡ true) (λ i. tell i ≡ false) c.find.ensures.ran (λ x q k. search (rules, tests))
    (λ x q k. search (rules, tests)))

pub unwrap-requires : goal.unwrap-requires
unwrap-requires c = rw (found (goal.at.unwrap-requires c).After-find) refl

pub overflow_cast-result : goal.overflow_cast-result
overflow_cast-result c =
    let pairs = c.args.self.pairs.now in
    let first = least_first (passes pairs c.args.self.lines.now) (length (pairs_of pairs)) c.requires in
    let e : c.unwrap.result ≡ lowest_no_code (pairs_of pairs) c.args.self.lines.now =
    cc (found (goal.at.overflow_cast-result c).After-find, c.unwrap.ensures) in
    rw e (omega (arith, first.below, length_pairs pairs, c.args.self.few))

pub returns : goal.returns
returns c = cc (found (goal.at.returns c).After-find, c.unwrap.ensures)
