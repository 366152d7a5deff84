-- The search behind question 6 in two diagrams, by computation. A wrong definition fails here first.
use Prim.Native.Nat.{ℕ}
use mathlib.Core.Path.{◌≡◌, refl}
use mathlib.Core.List.{List, [], ◌∷◌, ◌++◌}
use lib.ListN.{replicate}
use Rattle.fields.specs.Bounded.{all, any, least_from}
use Rattle.diagram.specs.declared.Diagram.{Diagram}
use Rattle.diagram.specs.Diagram.{width, edge_at}
use Rattle.diagram.specs.Questions.{distinct}
use Rattle.std.specs.Prelude.{Some, None}
use Rattle.twins.specs.Twins.{first_pair, total, comparison_of}

-- Three levels of two, four and three nodes, with these edges.
abbrev levels : List ℕ → List ℕ → List ℕ → Diagram
levels first second third =
    record {
      contacts = 3;
      outputs = 0;
      roots = [];
      widths = 2 ∷ 4 ∷ 3 ∷ [];
      edges = first ++ replicate 12 0 ++ second ++ replicate 8 0 ++ third;
    }

-- Nodes 1 and 2 of level 1 are alike, nodes 0 and 3, and all of level 2. Compared are the pair of level 0, and of level 1 nodes 0
-- and 1, 0 and 2, 1 and 2.
pub several :
    comparison_of (levels (0 ∷ 1 ∷ 1 ∷ 0 ∷ []) (0 ∷ 1 ∷ 2 ∷ 2 ∷ 2 ∷ 2 ∷ 0 ∷ 1 ∷ []) (0 ∷ 1 ∷ 0 ∷ 1 ∷ 0 ∷ 1 ∷ []))
    ≡ record { twins = Some (record { level = 1; later = 2; earlier = 1 }); compared = 4 }
unfolding all any least_from width edge_at distinct first_pair total
several = refl

-- No two nodes of a level are alike: 1, 6 and 3 pairs.
pub none :
    comparison_of (levels (0 ∷ 1 ∷ 1 ∷ 0 ∷ []) (0 ∷ 1 ∷ 2 ∷ 2 ∷ 2 ∷ 1 ∷ 0 ∷ 2 ∷ []) (0 ∷ 1 ∷ 1 ∷ 1 ∷ 0 ∷ 0 ∷ []))
    ≡ record { twins = None; compared = 10 }
unfolding all any least_from width edge_at distinct first_pair total
none = refl
