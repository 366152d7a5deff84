-- A drawing's truth tables, 64 values a word. Within a word the last six contacts vary, and those before them are fixed.
use Rattle.std.specs.Prelude.{ℕ, ◌+◌, ◌*◌, ◌-◌, ◌%◌, ◌^◌, ◌≤◌, ◌<◌, ◌≡◌, Bool, true, false, List, length, get_or}
use Rattle.fields.specs.Bounded.{all}
use Rattle.diagram.specs.Diagram.{bit, input_of}
use Rattle.bits.specs.Inner.Bits.{bit_of}
use Rattle.files.specs.Room.{Writing}
use Rattle.canonical.specs.Inner.Blocks.{input_at}
use Rattle.canonical.specs.Service.{tabling_of}
use Rattle.rows.specs.Inner.Rows.{Word}
use Rattle.drawing.specs.Drawing.{Drawing, node_count, level_in, is_node, is_drawing, lead}
use Rattle.truths.specs.Service.{functions_in}

-- A drawing that question 16 lets through.
pub record Limited (d : Drawing) : Type 0 where
  pub contacts : (1 ≤ d.contacts) × (d.contacts ≤ 12)
  pub outputs : (1 ≤ length d.outputs) × (length d.outputs ≤ 8)
  pub nodes : node_count d.nodes ≤ 200
  pub sound : is_drawing d ≡ true

-- Writing the table of its functions.
abbrev pub drawn_tabling : Drawing → List ℕ → Writing
drawn_tabling d buffer = tabling_of d.contacts (length d.outputs) (functions_in d) buffer

-- Its nodes.
pub record Ready (n : ℕ) (nodes : List ℕ) : Type 0 where
  pub contacts : (1 ≤ n) × (n ≤ 12)
  pub few : node_count nodes ≤ 200
  pub sound : all (node_count nodes) (is_node n nodes) ≡ true

-- A number's values in word w of its truth table.
abbrev pub Holds : ℕ → List ℕ → ℕ → ℕ → ℕ → Type 0
Holds n nodes v w word = Word n (λ x. lead nodes x n v) w word

-- The same in every word: the number is a constant, or a node of the last six levels.
abbrev pub WordIs : ℕ → List ℕ → List ℕ → ℕ → Type 0
WordIs n nodes values v = (w : ℕ) → Holds n nodes v w (get_or values v 0)

-- A word that is 1 where a contact is closed. The contact is bit `place` of the bits' places.
pub record Closed (place word : ℕ) : Type 0 where
  pub bits : (k : ℕ) → k < 64 → bit_of k word ≡ bit (input_of k place)

-- The words of the constants and of the nodes of level l and above are worked out.
pub record WordsFrom (n : ℕ) (nodes values : List ℕ) (l : ℕ) : Type 0 where
  pub zero : WordIs n nodes values 0
  pub one : WordIs n nodes values 1
  pub above : (i : ℕ) → i < node_count nodes → l ≤ level_in nodes i → WordIs n nodes values (2 + i)

-- What is worked out after the first nodes, so many: the levels above, and those of this level among them.
pub record LevelTo (n : ℕ) (nodes values : List ℕ) (l count : ℕ) : Type 0 where
  pub above : WordsFrom n nodes values (l + 1)
  pub passed : (i : ℕ) → i < count → i < node_count nodes → l ≤ level_in nodes i → WordIs n nodes values (2 + i)

-- A constant, or a listed node of level l or above.
pub record From (nodes : List ℕ) (l v : ℕ) : Type 0 where
  pub number : v < 2 + node_count nodes
  pub level : (i : ℕ) → v ≡ 2 + i → l ≤ level_in nodes i

-- Two numbers with the same values in word w.
pub record Same (n : ℕ) (nodes : List ℕ) (w v u : ℕ) : Type 0 where
  pub values : (k : ℕ) → k < 64 → lead nodes (input_at n (64 * w + k)) n u ≡ lead nodes (input_at n (64 * w + k)) n v

-- A node leads to another number in the words in which the contact of its level has a value.
pub record Half (n : ℕ) (nodes : List ℕ) (v level : ℕ) (b : Bool) (u : ℕ) : Type 0 where
  pub beyond : From nodes (level + 1) u
  pub same : (w : ℕ) → input_of (64 * w) (n - 1 - level) ≡ b → Same n nodes w v u

-- A node by whose level a fixed contact leads on, to either edge: so many contacts are fixed after that one.
pub record Forks (n : ℕ) (nodes : List ℕ) (v half zero one : ℕ) : Type 0 where
  pub node : 2 ≤ v
  pub fixed : half + 7 ≤ n
  pub level : level_in nodes (v - 2) ≡ n - 7 - half
  pub to-zero : Half n nodes v (n - 7 - half) false zero
  pub to-one : Half n nodes v (n - 7 - half) true one

-- The words of number v's truth table from any multiple of 2^left on, 2^left of them.
pub record Block (n left : ℕ) (nodes : List ℕ) (v : ℕ) (block : List ℕ) : Type 0 where
  pub held : (w i : ℕ) → w % 2 ^ left ≡ 0 → i < 2 ^ left → Holds n nodes v (w + i) (get_or block i 0)
