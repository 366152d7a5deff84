-- Decision diagrams by levels: their widths and edges, and the value of an output at an input.
use Rattle.std.specs.Prelude.{ℕ, zero, suc, ◌+◌, ◌*◌, ◌/◌, ◌%◌, ◌^◌, ◌<◌, ◌≡◌, Bool, true, false, not, cond, ltb, eqb, get_or}
use Rattle.diagram.specs.declared.Diagram.{Diagram}

-- The number of nodes of a level. Level n has two, the constants false and true.
unfoldable pub width : Diagram → ℕ → ℕ
width d l = cond (ltb l d.contacts) (get_or d.widths l 0) 2

-- The edges of a level in sequence, node by node, 0-edge first.
unfoldable pub edge_at : Diagram → ℕ → ℕ → ℕ
edge_at d l k = get_or d.edges (l * 16 + k) 0

abbrev pub bit : Bool → ℕ
bit false = 0
bit true = 1

-- The 0-edge or the 1-edge of node u of level l: a node of the next level.
abbrev pub edge : Diagram → ℕ → ℕ → Bool → ℕ
edge d l u b = edge_at d l (2 * u + bit b)

-- Whether node u's edges differ.
abbrev pub is_fork : Diagram → ℕ → ℕ → Bool
is_fork d l u = not (eqb (edge d l u false) (edge d l u true))

-- An output's node in level 0.
unfoldable pub root : Diagram → ℕ → ℕ
root d j = get_or d.roots j 0

-- An input gives each contact its value.
abbrev pub Input : Type 0
Input = ℕ → Bool

-- The input of a number, in which contact i has the weight 2^i.
unfoldable pub input_of : ℕ → Input
input_of a i = eqb (a / 2 ^ i % 2) 1

-- x below contact h, y from there on.
unfoldable pub join : ℕ → Input → Input → Input
join h x y i = cond (ltb i h) (x i) (y i)

-- The node that so many levels lead to from node u of level l: at level i the 1-edge if contact i is 1, else the 0-edge.
unfoldable pub path : Diagram → Input → ℕ → ℕ → ℕ → ℕ
path d x zero l u = u
path d x (suc levels) l u = path d x levels (suc l) (edge d l u (x l))

-- The value of output j: the constant that its node leads to.
unfoldable pub value_at : Diagram → Input → ℕ → ℕ
value_at d x j = path d x d.contacts 0 (root d j)

-- No output's value depends on contact i: it is the same at inputs that differ there alone.
abbrev pub Ignores : Diagram → ℕ → Type 0
Ignores d i =
    (x y : Input) → ((k : ℕ) → (k ≡ i → ⊥) → x k ≡ y k) → (j : ℕ) → j < d.outputs → value_at d x j ≡ value_at d y j

-- The values of the first outputs as a number, that of output j with the weight 2^j.
unfoldable pub word_of : (ℕ → ℕ) → ℕ → ℕ
word_of value zero = 0
word_of value (suc j) = word_of value j + value j * 2 ^ j

abbrev pub word_at : Diagram → Input → ℕ → ℕ
word_at d x m = word_of (value_at d x) m
