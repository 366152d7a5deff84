-- Functions of the contacts by their decision trees, and the table of some functions: in each level equal trees are one node.
use Rattle.std.specs.Prelude.{ℕ, zero, suc, ◌*◌, ◌/◌, ◌%◌, ◌<◌, ◌≡◌, Bool, true, false, ◌&&◌, cond, List, [], ◌∷◌, ◌++◌, leb, ltb, eqb, length, get_or}
use Rattle.fields.specs.Bounded.{all}
use Rattle.diagram.specs.Diagram.{Input, join}
use Rattle.table.specs.Encode.{Contents}

-- A function of the contacts from a level on, as its decision tree: a constant where no contact is left, else what is left of it with
-- the first of these contacts open, and with it closed.
pub data Function : Type 0 where
  constant : ℕ → Function
  choice : Function → Function → Function

-- What is left of a function with its first contact open (false) or closed (true).
abbrev pub half : Bool → Function → Function
half b (constant v) = constant v
half false (choice f g) = f
half true (choice f g) = g

-- Whether two functions are the same.
unfoldable pub same : Function → Function → Bool
same (constant v) (constant w) = eqb v w
same (constant v) (choice h k) = false
same (choice f g) (constant w) = false
same (choice f g) (choice h k) = same f h && same g k

-- An input with contact l set.
abbrev pub with_contact : ℕ → Bool → Input → Input
with_contact l b x i = cond (eqb i l) b (x i)

-- The tree of the values v over so many contacts from l on, the others as in x.
unfoldable pub tree : ℕ → ℕ → (Input → ℕ) → Input → Function
tree zero l v x = constant (v x)
tree (suc left) l v x = choice (tree left (suc l) v (with_contact l false x)) (tree left (suc l) v (with_contact l true x))

-- The functions of so many contacts that the outputs have, given output j's value at each input.
abbrev pub functions_of : ℕ → (ℕ → Input → ℕ) → ℕ → Function
functions_of n v j = tree n 0 (v j) (λ _. false)

-- The place of a function in a list; the list's length if it is not there.
unfoldable pub place : List Function → Function → ℕ
place [] f = 0
place (g ∷ gs) f = cond (same g f) 0 (suc (place gs f))

-- One mention more: a function that is not there yet is put last.
abbrev pub mentioned : List Function → Function → List Function
mentioned fs f = cond (ltb (place fs f) (length fs)) fs (fs ++ (f ∷ []))

-- The first k of some functions, each once, in the sequence of their first mention.
unfoldable pub firsts : (ℕ → Function) → ℕ → List Function
firsts f zero = []
firsts f (suc k) = mentioned (firsts f k) (f k)

-- The halves of a level's functions, one function after the other, that for the open contact first.
abbrev pub half_at : List Function → ℕ → Function
half_at fs k = half (eqb (k % 2) 1) (get_or fs (k / 2) (constant 0))

-- The functions of a level: level 0 is mentioned by the outputs, so many, each next level by the halves of the one before.
unfoldable pub level_of : (ℕ → Function) → ℕ → ℕ → List Function
level_of f m zero = firsts f m
level_of f m (suc l) = firsts (half_at (level_of f m l)) (2 * length (level_of f m l))

-- A function's number in its level: its place; a constant's is its value.
abbrev pub number_in : List Function → Function → ℕ
number_in fs (constant v) = v
number_in fs (choice f g) = place fs (choice f g)

-- The table of m functions of n contacts: a node for each function of a level, its edges to the halves.
abbrev pub canonical : ℕ → ℕ → (ℕ → Function) → Contents
canonical n m f =
    record {
      contacts = n;
      outputs = m;
      root = λ j. number_in (level_of f m 0) (f j);
      width = λ l. length (level_of f m l);
      edge = λ l k. number_in (level_of f m (suc l)) (half_at (level_of f m l) k);
    }

-- 17. For every count of first contacts below n, does fixing them leave at most eight different functions over all outputs?
unfoldable pub is_narrow : ℕ → ℕ → (ℕ → Function) → Bool
is_narrow n m f = all n (λ l. leb (length (level_of f m l)) 8)

-- Said of the values at inputs: fixing the first l contacts leaves more than eight different functions over m outputs. There are nine
-- choices of an output and of values for these contacts, any two of which differ at some values of the others.
abbrev pub MoreThanEight : ℕ → (ℕ → Input → ℕ) → ℕ → Type 0
MoreThanEight m v l =
    (output : ℕ → ℕ) × (fixed : ℕ → Input)
    × ((i : ℕ) → i < 9 → output i < m)
    × ((i k : ℕ) → i < k → k < 9 →
    (x : Input) × (v (output i) (join l (fixed i) x) ≡ v (output k) (join l (fixed k) x) → ⊥))
