-- The search behind question 6: the first two alike nodes of one level, and how many pairs are compared to find them.
use Rattle.std.specs.Prelude.{ℕ, zero, suc, ◌+◌, Bool, cond, Option, Some, None}
use Rattle.fields.specs.Bounded.{any, least}
use Rattle.diagram.specs.declared.Diagram.{Diagram}
use Rattle.diagram.specs.Diagram.{width}
use Rattle.diagram.specs.Questions.{alike, distinct}
use Rattle.twins.specs.declared.Pair.{Pair}
use Rattle.twins.specs.declared.Comparison.{Comparison}

-- Whether node v of level l is like a node before it.
abbrev pub repeats : Diagram → ℕ → ℕ → Bool
repeats d l v = any v (λ u. alike d l u v)

-- The first pair: in the lowest level with alike nodes the first node that is like one before it, and the first that it is like.
unfoldable pub first_pair : Diagram → Pair
first_pair d =
    let l = least d.contacts (λ i. any (width d i) (repeats d i)) in
    let v = least (width d l) (repeats d l) in
    record { level = l; later = v; earlier = least v (λ u. alike d l u v) }

abbrev pub twins_of : Diagram → Option Pair
twins_of d = cond (distinct d) None (Some (first_pair d))

-- The sum of f over the numbers below k.
unfoldable pub total : ℕ → (ℕ → ℕ) → ℕ
total zero f = 0
total (suc k) f = total k f + f k

-- How many pairs so many nodes have: each node makes one with every node before it.
abbrev pub pairs_among : ℕ → ℕ
pairs_among w = total w (λ v. v)

-- How many pairs the levels before l have.
abbrev pub pairs_before : Diagram → ℕ → ℕ
pairs_before d l = total l (λ i. pairs_among (width d i))

-- How many pairs are compared: all of them, or those before the pair that is found, and that one.
abbrev pub compared_to : Diagram → Option Pair → ℕ
compared_to d None = pairs_before d d.contacts
compared_to d (Some p) = pairs_before d p.level + pairs_among p.later + p.earlier + 1

abbrev pub comparison_of : Diagram → Comparison
comparison_of d = record { twins = twins_of d; compared = compared_to d (twins_of d) }
