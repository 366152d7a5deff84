-- Drawings: decision diagrams that skip levels, repeat nodes and use any numbering. Question 16, and an output's value at an input.
use Rattle.std.specs.Prelude.{ℕ, Option, Some, None, zero, suc, ◌+◌, ◌*◌, ◌/◌, Bool, true, false, ◌&&◌, cond, List, ltb, leb, eqb, length, get_or}
use Rattle.fields.specs.Bounded.{all}
use Rattle.fields.specs.Fields.{Item, Fields, fields_of, item_in, value_in}
use Rattle.fields.specs.Refusals.{framing_number}
use Rattle.files.specs.Header.{contacts_in, contacts_number, contacts_of, has_parts}
use Rattle.diagram.specs.Diagram.{Input}
use Rattle.drawing.specs.declared.form.Parts.{Parts}

-- The count of contacts, the number at which each output starts, and three bytes for each node: its level, its 0-edge, its 1-edge.
pub record Drawing : Type 0 where
  pub contacts : ℕ
  pub outputs : List ℕ
  pub nodes : List ℕ

abbrev pub drawing_of : List Item → Drawing
drawing_of is = record { contacts = contacts_of is; outputs = value_in is 1; nodes = value_in is 2 }

abbrev pub drawing_in : List ℕ → Drawing
drawing_in file = drawing_of (fields_of file).items

-- A drawing by its parts, and by the parts that were found.
abbrev pub parted : Parts → Drawing
parted p = record { contacts = p.contacts; outputs = p.outputs.now; nodes = p.nodes.now }

abbrev pub drawing_by : Option Parts → Option Drawing
drawing_by None = None
drawing_by (Some p) = Some (parted p)

-- Numbers 0 and 1 are the constants, 2 + i is node i, counted from 0.
abbrev pub node_count : List ℕ → ℕ
node_count nodes = length nodes / 3

abbrev pub level_in : List ℕ → ℕ → ℕ
level_in nodes i = get_or nodes (3 * i) 0

abbrev pub edge_in : List ℕ → ℕ → Bool → ℕ
edge_in nodes i false = get_or nodes (3 * i + 1) 0
edge_in nodes i true = get_or nodes (3 * i + 2) 0

-- A constant or a listed node.
abbrev pub is_number : List ℕ → ℕ → Bool
is_number nodes v = ltb v (2 + node_count nodes)

-- A constant, or a listed node of a level above l.
unfoldable pub is_above : List ℕ → ℕ → ℕ → Bool
is_above nodes l zero = true
is_above nodes l (suc zero) = true
is_above nodes l (suc (suc i)) = ltb i (node_count nodes) && ltb l (level_in nodes i)

-- A node's level is below n, and each of its edges goes to a constant or to a listed node of a higher level.
abbrev pub is_node : ℕ → List ℕ → ℕ → Bool
is_node n nodes i =
    let l = level_in nodes i in ltb l n && is_above nodes l (edge_in nodes i false) && is_above nodes l (edge_in nodes i true)

-- Each node is so, and each output is a constant or a listed node.
unfoldable pub is_drawing : Drawing → Bool
is_drawing d =
    all (node_count d.nodes) (is_node d.contacts d.nodes)
    && all (length d.outputs) (λ j. is_number d.nodes (get_or d.outputs j 0))

-- 16. Does the file have whole fields of tags 1, 2, 7 in that order and no more, tag 1 as in question 2, tag 2 of 1 to 8 outputs, tag 7
-- of 0 to 200 whole nodes, and is each node and each output as it should be? No: 16.
unfoldable pub form_of : Fields → Option Drawing
form_of fs =
    cond
    (eqb (framing_number fs.framing) 0
    && eqb (contacts_number (contacts_in fs.items)) 0
    && has_parts 2 1 1 8 (item_in fs.items 1)
    && has_parts 7 3 0 200 (item_in fs.items 2)
    && leb (length fs.items) 3
    && is_drawing (drawing_of fs.items))
    (Some (drawing_of fs.items))
    None

abbrev pub form_number : Option Drawing → ℕ
form_number (Some d) = 0
form_number None = 16

-- One step from a number at an input: a constant stays where it is, a node leads to its 1-edge if the contact of its level is 1, else
-- to its 0-edge.
unfoldable pub next : List ℕ → Input → ℕ → ℕ
next nodes x zero = 0
next nodes x (suc zero) = 1
next nodes x (suc (suc i)) = edge_in nodes i (x (level_in nodes i))

unfoldable pub lead : List ℕ → Input → ℕ → ℕ → ℕ
lead nodes x zero v = v
lead nodes x (suc steps) v = lead nodes x steps (next nodes x v)

-- The value of output j: the constant that its number leads to. Levels rise from step to step, so n steps are enough.
abbrev pub drawn_at : Drawing → ℕ → Input → ℕ
drawn_at d j x = lead d.nodes x d.contacts (get_or d.outputs j 0)
