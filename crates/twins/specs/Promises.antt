-- What the search behind question 6 hands back: the first two alike nodes of one level, or that there are none, and how many pairs it
-- compared.
use Rattle.std.specs.Prelude.{ℕ, ◌*◌, ◌/◌, ◌-◌, ◌<◌, ◌≡◌, Bool, true, false, not, ◌&&◌, ◌||◌, ltb, eqb, Option, Some, None}
use Rattle.diagram.specs.declared.Diagram.{Diagram}
use Rattle.diagram.specs.Diagram.{width, bit, edge}
use Rattle.twins.specs.declared.Pair.{Pair}
use Rattle.twins.specs.Twins.{twins_of, total, pairs_among, comparison_of}

-- Two alike nodes: of one level, with the same edges.
pub record AreAlike (d : Diagram) (p : Pair) : Type 0 where
  pub level : p.level < d.contacts
  pub later : p.later < width d p.level
  pub earlier : p.earlier < p.later
  pub edges : (b : Bool) → edge d p.level p.earlier b ≡ edge d p.level p.later b

-- The order of pairs: by level, then by the later node, then by the earlier.
unfoldable pub is_before : Pair → Pair → Bool
is_before p q =
    ltb p.level q.level
    || eqb p.level q.level
    && (ltb p.later q.later || eqb p.later q.later && ltb p.earlier q.earlier)

-- The nodes that are found are alike, and no pair of alike nodes comes before theirs.
abbrev pub FirstTwins : Type 0
FirstTwins =
    (d : Diagram) (p : Pair) → twins_of d ≡ Some p →
    AreAlike d p × ((q : Pair) → AreAlike d q → is_before q p ≡ false)

-- None is found exactly if no level has two alike nodes.
abbrev pub NoTwins : Type 0
NoTwins =
    (d : Diagram) →
    (twins_of d ≡ None → (q : Pair) → AreAlike d q → ⊥) × (((q : Pair) → AreAlike d q → ⊥) → twins_of d ≡ None)

-- Whether a pair is among those up to the one that is found, so does not come after it; all are where none is found.
abbrev pub is_up_to : Option Pair → Pair → Bool
is_up_to None q = true
is_up_to (Some p) q = not (is_before p q)

-- So many pairs are compared as there are up to the one that is found, or as there are.
abbrev pub PairsCounted : Type 0
PairsCounted =
    (d : Diagram) →
    (comparison_of d).compared
    ≡ total d.contacts (λ l. total (width d l) (λ v. total v (λ u.
    bit (is_up_to (twins_of d) (record { level = l; later = v; earlier = u })))))

-- All pairs of w nodes are w (w - 1) / 2.
abbrev pub AllPairs : Type 0
AllPairs = (w : ℕ) → pairs_among w ≡ w * (w - 1) / 2
