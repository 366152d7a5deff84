-- The search behind question 6: what is known where so many levels and nodes are passed, and what its end says.
use Prim.Native.Nat.{ℕ, zero, suc, ◌+◌, ◌<◌}
use native.Mathlib.Nat.{not-suc-le-zero, add-zero}
use native.Mathlib.Omega.{arith}
use borrow.Author.Count.{below_more}
use mathlib.Core.Path.{◌≡◌, refl, sym, ap, ap₂, ◌∙◌}
use mathlib.Core.Bool.{Bool, true, false, not, ◌&&◌, ◌||◌}
use Rattle.fields.specs.Bounded.{all, any, least}
use Rattle.fields.proofs.Bounded.{any_at, any-not}
use Rattle.fields.proofs.Least.{First, least-is, least-below}
use Rattle.diagram.specs.declared.Diagram.{Diagram}
use Rattle.diagram.specs.Diagram.{width}
use Rattle.diagram.specs.Questions.{alike, distinct}
use Rattle.std.specs.Prelude.{Some, None}
use Rattle.twins.specs.Twins.{repeats, first_pair, total, pairs_among, pairs_before, comparison_of}
use Rattle.twins.proofs.Totals.{total-more}

-- Every number fails exactly if none passes.
not-or : (a b : Bool) → (not a && not b) ≡ not (a || b)
not-or true b = refl
not-or false b = refl

not-any : (n : ℕ) (p q : ℕ → Bool) → ((i : ℕ) → p i ≡ not (q i)) → all n p ≡ not (any n q)
unfolding all any
not-any zero p q h = refl
not-any (suc n) p q h = ap₂ ◌&&◌ (not-any n p q h) (h n) ∙ not-or (any n q) (q n)

-- Whether a level has two alike nodes. Question 6 is whether no level has.
abbrev pub has_alike : Diagram → ℕ → Bool
has_alike d l = any (width d l) (repeats d l)

pub distinct-is : (d : Diagram) → distinct d ≡ not (any d.contacts (has_alike d))
unfolding distinct
distinct-is d =
    not-any d.contacts _ (has_alike d)
    (λ l. not-any (width d l) _ (repeats d l) (λ v. not-any v _ (λ u. alike d l u v) (λ u. refl)))

-- The levels before l are passed, of level l the nodes before v, and so many pairs are compared.
pub record Passed (d : Diagram) (l v compared : ℕ) : Type 0 where
  pub levels : (i : ℕ) → i < l → has_alike d i ≡ false
  pub nodes : (i : ℕ) → i < v → repeats d l i ≡ false
  pub count : compared ≡ pairs_before d l + pairs_among v

module _ (d : Diagram) where
  pub passed_none : Passed d 0 0 0
  unfolding total
  passed_none = record { levels = λ i h. absurd (not-suc-le-zero h); nodes = λ i h. absurd (not-suc-le-zero h); count = refl }

  module _ {l v c : ℕ} (s : Passed d l v c) where
    pub passed-node : repeats d l v ≡ false → Passed d l (v + 1) (c + v)
    passed-node e =
        record {
          levels = s.levels;
          nodes = below_more _ v s.nodes e;
          count = omega (arith, s.count, total-more v (λ i. i));
        }

    pub passed-level : v ≡ width d l → Passed d (l + 1) 0 c
    unfolding total
    passed-level w =
        record {
          levels = below_more _ l s.levels (any-not _ (width d l) (rw w at s.nodes));
          nodes = λ i h. absurd (not-suc-le-zero h);
          count = s.count ∙ rw w (sym (total-more l (λ i. pairs_among (width d i))) ∙ sym (add-zero _));
        }

    -- The end where node v is like node u, and the end past the last level.
    pub passed-found : l < d.contacts → v < width d l → {u : ℕ} → u < v → u ≡ least v (λ u. alike d l u v) →
        record { twins = Some (record { level = l; later = v; earlier = u }); compared = c + u + 1 } ≡ comparison_of d
    unfolding first_pair
    passed-found hl hv {u} hu e =
        let f = least-below (λ u. alike d l u v) e hu in
        let node : First (repeats d l) (width d l) v =
        record { below = hv; passes = any_at _ v u f.below f.passes; none = s.nodes } in
        let level : First (has_alike d) d.contacts l =
        record { below = hl; passes = any_at _ (width d l) v hv node.passes; none = s.levels } in
        let some = distinct-is d ∙ ap not (any_at (has_alike d) d.contacts l hl level.passes) in
        rw (some, ← least-is _ level, ← least-is _ node, ← least-is _ f, s.count)

  pub passed-all : {c : ℕ} → Passed d d.contacts 0 c → record { twins = None; compared = c } ≡ comparison_of d
  unfolding total
  passed-all s =
      let none = distinct-is d ∙ ap not (any-not (has_alike d) d.contacts s.levels) in
      rw (none, s.count, add-zero (pairs_before d d.contacts))
