-- The promises of the search behind question 6.
use Prim.Native.Nat.{ℕ, zero, suc, ◌+◌, ◌*◌, ◌-◌, ◌<◌}
use native.Mathlib.Nat.{le_of_suc-le-suc, lt_of_not-le}
use native.Mathlib.Omega.{arith}
use mathlib.Core.Path.{◌≡◌, refl, sym, ap, ap₂, ◌∙◌}
use mathlib.Core.Bool.{Bool, true, false, not, ◌&&◌, ◌||◌, cond, or-false, false≢true}
use borrow.Author.Tests.{lt-ltb, le-ltb, eqb-true, eq-eqb, ne_eqb, not-false}
use lib.Dec.{ltb, eqb}
use Rattle.fields.proofs.Bounded.{and_left, and_right, any_at}
use Rattle.fields.proofs.Least.{First, least_first}
use Rattle.diagram.specs.declared.Diagram.{Diagram}
use Rattle.diagram.specs.Diagram.{width, bit, edge}
use Rattle.diagram.specs.Questions.{alike, distinct}
use Rattle.diagram.proofs.Paths.{unlike}
use Rattle.twins.specs.declared.Pair.{Pair}
use Rattle.std.specs.Prelude.{Some, None}
use Rattle.twins.specs.Twins.{repeats, first_pair, twins_of, total, pairs_among, pairs_before, compared_to}
use Rattle.twins.specs.Promises.{AreAlike, is_before, FirstTwins, NoTwins, is_up_to, PairsCounted, AllPairs}
use Rattle.twins.proofs.Pairs.{has_alike, distinct-is}
use Rattle.twins.proofs.Totals.{total-same, total-up_to, ones, zeros, twice}

not-below : (a b : ℕ) → (a < b → ⊥) → ltb a b ≡ false
not-below a b h = le-ltb a b (le_of_suc-le-suc (lt_of_not-le h))

-- The order of two pairs is that of the first numbers in which they differ.
abbrev pair : ℕ → ℕ → ℕ → Pair
pair l v u = record { level = l; later = v; earlier = u }

abbrev opposite : Bool → ℕ
opposite b = bit (not b)

module _ (p : Pair) where
  same-node : (u : ℕ) → is_before p (pair p.level p.later u) ≡ ltb p.earlier u
  unfolding is_before
  same-node u = simp (le-ltb p.level p.level (omega arith), eq-eqb p.level p.level refl, le-ltb p.later p.later (omega arith), eq-eqb p.later p.later refl)

  same-level : (v u : ℕ) → (p.later ≡ v → ⊥) → is_before p (pair p.level v u) ≡ ltb p.later v
  unfolding is_before
  same-level v u h = simp (le-ltb p.level p.level (omega arith), eq-eqb p.level p.level refl, ne_eqb p.later v h, or-false)

  other-level : (l v u : ℕ) → (p.level ≡ l → ⊥) → is_before p (pair l v u) ≡ ltb p.level l
  unfolding is_before
  other-level l v u h = simp (ne_eqb p.level l h, or-false)

-- The two answers differ, and a pair is what one says.
absent-present : {q : Pair} → None ≡ Some q → ⊥
absent-present e = let z : ◌≡◌ {A = ℕ} 0 1 = cc in omega arith

present-is : {p q : Pair} → Some p ≡ Some q → p ≡ q
present-is e = cc

-- A pair of alike nodes, by the tests.
module _ (d : Diagram) (q : Pair) (h : AreAlike d q) where
  alike-there : alike d q.level q.earlier q.later ≡ true
  alike-there = ap₂ ◌&&◌ (eq-eqb _ _ (h.edges false)) (eq-eqb _ _ (h.edges true))

  repeats-there : repeats d q.level q.later ≡ true
  repeats-there = any_at _ q.later q.earlier h.earlier alike-there

  level-there : has_alike d q.level ≡ true
  level-there = any_at _ (width d q.level) q.later h.later repeats-there

-- Where some nodes are alike the pair that is found is, and each of its numbers is the first.
module _ (d : Diagram) (some : distinct d ≡ false) where
  abbrev p : Pair
  p = first_pair d

  level-first : First (has_alike d) d.contacts p.level
  unfolding first_pair
  level-first = least_first (has_alike d) d.contacts (not-false _ (sym (distinct-is d) ∙ some))

  later_first : First (repeats d p.level) (width d p.level) p.later
  unfolding first_pair
  later_first = least_first (repeats d p.level) (width d p.level) level-first.passes

  earlier-first : First (λ u. alike d p.level u p.later) p.later p.earlier
  unfolding first_pair
  earlier-first = least_first (λ u. alike d p.level u p.later) p.later later_first.passes

  same_edges : (b : Bool) → edge d p.level p.earlier b ≡ edge d p.level p.later b
  same_edges false =
      eqb-true _ _ (and_left _ (eqb (edge d p.level p.earlier true) (edge d p.level p.later true)) earlier-first.passes)
  same_edges true =
      eqb-true _ _ (and_right (eqb (edge d p.level p.earlier false) (edge d p.level p.later false)) _ earlier-first.passes)

  found_alike : AreAlike d (first_pair d)
  found_alike =
      record {
        level = level-first.below;
        later = later_first.below;
        earlier = earlier-first.below;
        edges = same_edges;
      }

  -- A pair before it would have a number where none passes.
  none_before : (q : Pair) → AreAlike d q → is_before q (first_pair d) ≡ false
  unfolding is_before
  none_before q h =
      rw no-level (sames (eqb q.level p.level) refl)
    where
      no-level : ltb q.level p.level ≡ false
      no-level = not-below _ _ (λ l. false≢true (sym (level-first.none q.level l) ∙ level-there d q h))

      no-later : q.level ≡ p.level → ltb q.later p.later ≡ false
      no-later e =
          not-below _ _ (λ l. false≢true (sym (later_first.none q.later l) ∙ rw e at (repeats-there d q h)))

      no-earlier : q.level ≡ p.level → q.later ≡ p.later → ltb q.earlier p.earlier ≡ false
      no-earlier e f =
          not-below _ _ (λ l. false≢true (sym (earlier-first.none q.earlier l) ∙ rw (e, f) at (alike-there d q h)))

      same : (t : Bool) → eqb q.later p.later ≡ t → q.level ≡ p.level → (t && ltb q.earlier p.earlier) ≡ false
      same true f e = no-earlier e (eqb-true _ _ f)
      same false f e = refl

      sames : (t : Bool) → eqb q.level p.level ≡ t →
          (t && (ltb q.later p.later || eqb q.later p.later && ltb q.earlier p.earlier)) ≡ false
      sames true e = rw (no-later (eqb-true _ _ e)) (same (eqb q.later p.later) refl (eqb-true _ _ e))
      sames false e = refl

  -- How many pairs do not come after it: of its later node, of its level, and of all levels.
  abbrev up_to : ℕ → ℕ → ℕ → ℕ
  up_to l v u = bit (not (is_before p (pair l v u)))

  in-node : total p.later (up_to p.level p.later) ≡ p.earlier + 1
  in-node =
      total-up_to p.later p.earlier _ (λ _. 1) earlier-first.below
      (λ u l. ap opposite (same-node p u ∙ le-ltb p.earlier u (omega arith)))
      (λ u l. ap opposite (same-node p u ∙ lt-ltb p.earlier u l))
      ∙ ap₂ ◌+◌ (ones p.earlier _ (λ _. refl)) (ap opposite (same-node p p.earlier ∙ le-ltb p.earlier p.earlier (omega arith)))

  in-level : total (width d p.level) (λ v. total v (up_to p.level v)) ≡ pairs_among p.later + (p.earlier + 1)
  in-level =
      total-up_to (width d p.level) p.later _ (λ v. v) later_first.below
      (λ v l. ones v _ (λ u. ap opposite (same-level p v u (λ e. omega arith) ∙ le-ltb p.later v (omega arith))))
      (λ v l. zeros v _ (λ u. ap opposite (same-level p v u (λ e. omega arith) ∙ lt-ltb p.later v l)))
      ∙ ap (λ (k : ℕ). pairs_among p.later + k) in-node

  in_all : total d.contacts (λ l. total (width d l) (λ v. total v (up_to l v))) ≡ pairs_before d p.level + (pairs_among p.later + (p.earlier + 1))
  in_all =
      total-up_to d.contacts p.level _ (λ l. pairs_among (width d l)) level-first.below
      (λ l h. total-same (width d l) _ (λ v. v) (λ v _. ones v _ (λ u. ap opposite (other-level p l v u (λ e. omega arith) ∙ le-ltb p.level l (omega arith)))))
      (λ l h. zeros (width d l) _ (λ v. zeros v _ (λ u. ap opposite (other-level p l v u (λ e. omega arith) ∙ lt-ltb p.level l h))))
      ∙ ap (λ (k : ℕ). pairs_before d p.level + k) in-level

  counted : pairs_before d p.level + pairs_among p.later + p.earlier + 1
      ≡ total d.contacts (λ l. total (width d l) (λ v. total v (λ u. bit (not (is_before p (pair l v u))))))
  counted = omega (arith, in_all)

-- All pairs.
all-counted : (d : Diagram) → pairs_before d d.contacts ≡ total d.contacts (λ l. total (width d l) (λ v. total v (λ u. 1)))
all-counted d =
    total-same d.contacts _ _ (λ l _. total-same (width d l) _ _ (λ v _. sym (ones v _ (λ _. refl))))

-- By whether the diagram's nodes are distinct.
pub first-twins : FirstTwins
first-twins d q e = go (distinct d) refl e
  where
    go : (t : Bool) → distinct d ≡ t → cond t None (Some (first_pair d)) ≡ Some q →
        AreAlike d q × ((r : Pair) → AreAlike d r → is_before r q ≡ false)
    go true s e = absurd (absent-present e)
    go false s e = rw (← present-is e) (found_alike d s, none_before d s)

pub no-twins : NoTwins
no-twins d = (one, other)
  where
    one : twins_of d ≡ None → (q : Pair) → AreAlike d q → ⊥
    one e q h = go (distinct d) refl e
      where
        go : (t : Bool) → distinct d ≡ t → cond t None (Some (first_pair d)) ≡ None → ⊥
        go true s e =
            let (b, differ) = unlike d s q.level q.earlier q.later h.level (omega (arith, h.earlier, h.later)) h.later (λ e. omega (arith, h.earlier)) in
            differ (h.edges b)
        go false s e = absent-present (sym e)

    other : ((q : Pair) → AreAlike d q → ⊥) → twins_of d ≡ None
    other none = go (distinct d) refl
      where
        go : (t : Bool) → distinct d ≡ t → cond t None (Some (first_pair d)) ≡ None
        go true s = refl
        go false s = absurd (none (first_pair d) (found_alike d s))

pub pairs-counted : PairsCounted
pairs-counted d = go (distinct d) refl
  where
    go : (t : Bool) → distinct d ≡ t → let twins = cond t None (Some (first_pair d)) in
        compared_to d twins ≡ total d.contacts (λ l. total (width d l) (λ v. total v (λ u. bit (is_up_to twins (pair l v u)))))
    go true s = all-counted d
    go false s = counted d s

pub all-pairs : AllPairs
unfolding total
all-pairs zero = refl
all-pairs (suc w) =
    let less : suc w - 1 ≡ w = omega arith in
    omega (arith, twice w, ap (λ (k : ℕ). suc w * k) less)
