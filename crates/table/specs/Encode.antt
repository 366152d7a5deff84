-- The bytes of a table file, by what its fields say; and those of a diagram's table file.
use Rattle.std.specs.Prelude.{ℕ, ◌*◌, List, [], ◌∷◌}
use Rattle.fields.specs.Bounded.{listed}
use Rattle.fields.specs.Fields.{Item, encoded}
use Rattle.diagram.specs.declared.Diagram.{Diagram}
use Rattle.diagram.specs.Diagram.{width, edge_at, root}

-- What a table's fields say: the counts, each output's node, the width of each level and its edges, node by node, 0-edge first.
pub record Contents : Type 0 where
  pub contacts : ℕ
  pub outputs : ℕ
  pub root : ℕ → ℕ
  pub width : ℕ → ℕ
  pub edge : ℕ → ℕ → ℕ

-- Tag 3 for each level: the edges of its nodes.
abbrev pub level_item : Contents → ℕ → Item
level_item c l = record { tag = 3; value = listed (c.edge l) (2 * c.width l) 0 }

-- Tag 1: the count of contacts. Tag 2: each output's node. Then the levels.
abbrev pub items_of : Contents → List Item
items_of c =
    record { tag = 1; value = c.contacts ∷ [] }
    ∷ record { tag = 2; value = listed c.root c.outputs 0 }
    ∷ listed (level_item c) c.contacts 0

unfoldable pub bytes_of : Contents → List ℕ
bytes_of c = encoded (items_of c)

abbrev pub contents_of : Diagram → Contents
contents_of d =
    record { contacts = d.contacts; outputs = d.outputs; root = root d; width = width d; edge = edge_at d }

abbrev pub table_bytes : Diagram → List ℕ
table_bytes d = bytes_of (contents_of d)
