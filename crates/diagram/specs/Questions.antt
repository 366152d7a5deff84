-- Questions 5 to 7, about a decoded table.
use Rattle.std.specs.Prelude.{ℕ, zero, suc, ◌*◌, ◌≤◌, ◌<◌, max, ◌≡◌, Bool, true, false, not, ◌&&◌, cond, leb, ltb, eqb, length, get_or}
use Rattle.fields.specs.Bounded.{all}
use Rattle.diagram.specs.declared.Diagram.{Diagram}
use Rattle.diagram.specs.declared.sound.Range.{Range}
use Rattle.diagram.specs.declared.sound.Range.TheVariants.{Within, Outside}
use Rattle.diagram.specs.declared.sound.Numbering.{Numbering}
use Rattle.diagram.specs.declared.sound.Numbering.TheVariants.{InTurn, OutOfTurn}
use Rattle.diagram.specs.Diagram.{width, edge_at, edge, root}

-- The limits: 1 to 12 contacts, 1 to 8 outputs, 1 to 8 nodes in a level.
pub record Sized (d : Diagram) : Type 0 where
  pub contacts : (1 ≤ d.contacts) × (d.contacts ≤ 12)
  pub outputs : (1 ≤ d.outputs) × (d.outputs ≤ 8)
  pub widths : (l : ℕ) → l < d.contacts → (1 ≤ width d l) × (width d l ≤ 8)

-- The arrays at their full length, with 0 past the outputs, past the levels and past a level's edges.
pub record Tidy (d : Diagram) : Type 0 where
  pub lengths : (length d.roots ≡ 8) × (length d.widths ≡ 12) × (length d.edges ≡ 192)
  pub roots : (j : ℕ) → d.outputs ≤ j → root d j ≡ 0
  pub widths : (l : ℕ) → d.contacts ≤ l → get_or d.widths l 0 ≡ 0
  pub edges : (l k : ℕ) → 2 * get_or d.widths l 0 ≤ k → k < 16 → edge_at d l k ≡ 0

-- 5. Does every edge and output name a node that its level has?
unfoldable pub in_range : Diagram → Bool
in_range d =
    all d.outputs (λ j. ltb (root d j) (width d 0))
    && all d.contacts (λ l. all (2 * width d l) (λ k. ltb (edge_at d l k) (width d (suc l))))

-- Whether nodes u and v of level l have the same edges.
abbrev pub alike : Diagram → ℕ → ℕ → ℕ → Bool
alike d l u v = eqb (edge d l u false) (edge d l v false) && eqb (edge d l u true) (edge d l v true)

-- 6. Does each pair of nodes of one level differ in an edge?
unfoldable pub distinct : Diagram → Bool
distinct d = all d.contacts (λ l. all (width d l) (λ v. all v (λ u. not (alike d l u v))))

-- Level 0 is mentioned by the output list, each next level by the edges of the one before, node by node, 0-edge first.
unfoldable pub mention : Diagram → ℕ → ℕ → ℕ
mention d zero k = root d k
mention d (suc l) k = edge_at d l k

unfoldable pub mentions : Diagram → ℕ → ℕ
mentions d zero = d.outputs
mentions d (suc l) = 2 * width d l

-- One more than the largest of the first k numbers; 0 where there are none.
unfoldable pub brought : (ℕ → ℕ) → ℕ → ℕ
brought f zero = 0
brought f (suc k) = max (brought f k) (suc (f k))

-- Whether each of the first k mentions names a node that was mentioned before or the next number, and they name w nodes in all.
abbrev pub in_turn : (ℕ → ℕ) → ℕ → ℕ → Bool
in_turn f k w = all k (λ i. leb (f i) (brought f i)) && eqb (brought f k) w

-- 7. Are nodes numbered by first mention, and all mentioned?
unfoldable pub numbered : Diagram → Bool
numbered d = all d.contacts (λ l. in_turn (mention d l) (mentions d l) (width d l))

-- The answers to 5 and 7; that to 6 says which nodes are alike (crate `twins`).
abbrev pub range_of : Diagram → Range
range_of d = cond (in_range d) Within Outside

abbrev pub numbering_of : Diagram → Numbering
numbering_of d = cond (numbered d) InTurn OutOfTurn
