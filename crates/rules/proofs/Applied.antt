-- The rules applied to two tables and four pairs, by computation. The laws come after this file by its name, so that a wrong rule
-- fails here first.
use Prim.Native.Nat.{ℕ}
use mathlib.Core.Path.{◌≡◌, refl}
use mathlib.Core.List.{List, [], ◌∷◌, flat_map}
use Rattle.fields.specs.Bounded.{any, listed}
use Rattle.fields.specs.Fields.{raw_step_at, value_of, raw_fields_within, raw_fields_from, but_notes, fields_from, fields_of}
use Rattle.diagram.specs.Diagram.{width, edge_at, root}
use Rattle.table.specs.Table.{padded, diagram_of, diagram_in}
use Rattle.netlist.specs.declared.Gate.{Gate}
use Rattle.netlist.specs.declared.Pair.{Pair}
use Rattle.rules.specs.Make.{◌>>=◌, sequence}
use Rattle.rules.specs.Blocks.{cut_within, cut, term, tree, joined, product_entry, product, level_matrix, block}
use Rattle.rules.specs.Board.{whole_block, board_of, table_board}
use Rattle.rules.specs.Lamp.{join, join_tree}
use Rattle.rules.specs.Formulas.{widest_to, widest, least_power, log2up, gates_most, depth_most}

abbrev AND : ℕ → ℕ → Gate
AND a b = record { kind = 0; left = a; right = b }

abbrev OR : ℕ → ℕ → Gate
OR a b = record { kind = 1; left = a; right = b }

abbrev pair : ℕ → ℕ → Pair
pair on off = record { on = on; off = off }

-- Three contacts, one output, widths 1 to 3.
abbrev selector : List ℕ
selector =
    1 ∷ 0 ∷ 1 ∷ 3 ∷ 2 ∷ 0 ∷ 1 ∷ 0 ∷ 3 ∷ 0 ∷ 2 ∷ 0 ∷ 1 ∷ 3 ∷ 0 ∷ 4 ∷ 0 ∷ 1 ∷ 0 ∷ 2 ∷ 3 ∷ 0 ∷ 6 ∷ 0 ∷ 1 ∷ 0 ∷ 0 ∷ 1 ∷ 1 ∷ []

-- Its formulas: 2 * 9 * 5 gates, and the depth 2 * (1 + 2).
pub selector-most : (gates_most (diagram_in selector) ≡ 90) × (depth_most (diagram_in selector) ≡ 6)
unfolding raw_step_at value_of raw_fields_within raw_fields_from but_notes fields_from fields_of padded diagram_of flat_map width widest_to widest least_power log2up gates_most depth_most
selector-most = (refl, refl)

-- Four contacts, two outputs, widths 2, 2, 4 and 2: contact 3 where contacts 0 and 1 choose never, contact 2 open, always, or
-- contact 2 closed; the second output takes contact 0 for open.
abbrev chooser : List ℕ
chooser =
    1 ∷ 0 ∷ 1 ∷ 4 ∷ 2 ∷ 0 ∷ 2 ∷ 0 ∷ 1 ∷ 3 ∷ 0 ∷ 4 ∷ 0 ∷ 1 ∷ 0 ∷ 0 ∷ 3 ∷ 0 ∷ 4 ∷ 0 ∷ 1 ∷ 2 ∷ 3 ∷ 3 ∷ 0 ∷ 8 ∷ 0 ∷ 0 ∷ 1 ∷ 0 ∷ 1 ∷ 1 ∷ 0 ∷ 1 ∷ 3 ∷ 0 ∷ 4 ∷ 0 ∷ 0 ∷ 0 ∷ 1 ∷ []

-- Lines 10 to 13 are the left block's, 14 to 19 the right block's, 20 to 30 the first row's (of four terms and of three), 31 to 33
-- the second's.
pub chooser-board :
    table_board chooser
    ≡ record {
      contacts = 4;
      gates = AND 3 5 ∷ AND 3 4 ∷ AND 2 5 ∷ AND 2 4
          ∷ AND 7 9 ∷ OR 6 14 ∷ AND 7 8 ∷ AND 6 9 ∷ OR 7 17 ∷ AND 6 8
          ∷ AND 11 15 ∷ AND 12 9 ∷ AND 13 18 ∷ OR 10 20 ∷ OR 21 22 ∷ OR 23 24
          ∷ AND 11 16 ∷ AND 12 8 ∷ AND 13 19 ∷ OR 26 27 ∷ OR 29 28
          ∷ AND 4 15 ∷ OR 5 31 ∷ AND 4 16 ∷ [];
      pairs = pair 30 25 ∷ pair 33 32 ∷ [];
      lamp = [];
    }
unfolding any raw_step_at value_of raw_fields_within raw_fields_from but_notes fields_from fields_of padded diagram_of flat_map width edge_at root listed ◌>>=◌ sequence cut_within cut term tree joined product_entry product level_matrix block whole_block board_of
chooser-board = refl

-- The lamp of four pairs: lines 10 to 15 join the first two, 16 to 21 the others, 22 to 27 what they come to.
pub four-lamp :
    join_tree (cut 4) (pair 2 3 ∷ pair 4 5 ∷ pair 6 7 ∷ pair 8 9 ∷ []) 10
    ≡ (
      AND 2 4 ∷ AND 3 5 ∷ OR 10 11 ∷ AND 2 5 ∷ AND 3 4 ∷ OR 13 14
          ∷ AND 6 8 ∷ AND 7 9 ∷ OR 16 17 ∷ AND 6 9 ∷ AND 7 8 ∷ OR 19 20
          ∷ AND 12 18 ∷ AND 15 21 ∷ OR 22 23 ∷ AND 12 21 ∷ AND 15 18 ∷ OR 25 26 ∷ [],
      pair 24 27,
    )
unfolding ◌>>=◌ cut_within cut tree join
four-lamp = refl
