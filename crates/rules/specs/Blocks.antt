-- From levels to gates: the matrix of a level, the product of two matrices, and the block of several levels.
use Rattle.std.specs.Prelude.{ℕ, zero, suc, ◌+◌, ◌*◌, ◌-◌, ◌/◌, Bool, true, false, ◌&&◌, cond, List, [], ◌∷◌, leb, eqb, length, get_or, take, drop}
use Rattle.fields.specs.Bounded.{any}
use Rattle.diagram.specs.declared.Diagram.{Diagram}
use Rattle.diagram.specs.Diagram.{width, edge}
use Rattle.rules.specs.declared.Entry.{Entry}
use Rattle.rules.specs.declared.Entry.TheVariants.{Never, Always, Line}
use Rattle.rules.specs.Make.{Make, return, ◌>>=◌, gate, sequence}

-- A count cut into the first half, rounded up, and the rest, again and again until single ones remain.
pub data Cut : Type 0 where
  one : Cut
  two : Cut → Cut → Cut

abbrev pub size : Cut → ℕ
size one = 1
size (two a b) = size a + size b

unfoldable pub cut_within : ℕ → ℕ → Cut
cut_within zero count = one
cut_within (suc steps) count =
    elim (leb count 1) [
      | true ↦ one
      | false ↦ two (cut_within steps ((count + 1) / 2)) (cut_within steps (count - (count + 1) / 2))
    ]

unfoldable pub cut : ℕ → Cut
cut count = cut_within count count

-- A matrix by its rows.
abbrev pub Matrix : Type 0
Matrix = List (List Entry)

abbrev pub entry_at : Matrix → ℕ → ℕ → Entry
entry_at m u v = get_or (get_or m u []) v Never

-- In the matrix of level l, column v, the entry of a node with these edges: always if both go to v, the true rail if only the 1-edge
-- does, the false rail if only the 0-edge does, else never.
abbrev pub node_entry : ℕ → ℕ → ℕ → ℕ → Entry
node_entry zero-edge one-edge l v =
    cond (eqb one-edge v)
    (cond (eqb zero-edge v) Always (Line (2 + 2 * l)))
    (cond (eqb zero-edge v) (Line (3 + 2 * l)) Never)

-- Row u is node u's.
abbrev pub level_entry : Diagram → ℕ → ℕ → ℕ → Entry
level_entry d l u = node_entry (edge d l u false) (edge d l u true) l

-- A term with never is dropped, a term with always is its other factor, else an AND is made with the left factor first.
unfoldable pub term : Entry → Entry → Make Entry
term Never y = return Never
term Always y = return y
term (Line a) Never = return Never
term (Line a) Always = return (Line a)
term (Line a) (Line b) = do
  x ← gate 0 a b
  return (Line x)

abbrev pub is_always : Entry → Bool
is_always Never = false
is_always Always = true
is_always (Line x) = false

-- The lines among some terms.
abbrev pub lines_in : List Entry → List ℕ
lines_in [] = []
lines_in (Never ∷ ts) = lines_in ts
lines_in (Always ∷ ts) = lines_in ts
lines_in (Line x ∷ ts) = x ∷ lines_in ts

-- Elements joined two by two as a count is cut: what each part makes comes first, then the join of the two.
unfoldable pub tree : {A : Type 0} → A → (A → A → Make A) → Cut → List A → Make A
tree none join one xs = return (get_or xs 0 none)
tree none join (two a b) xs = do
  x ← tree none join a (take (size a) xs)
  y ← tree none join b (drop (size a) xs)
  join x y

-- Each part's ORs come first, then the OR of the two.
abbrev pub or_tree : Cut → List ℕ → Make ℕ
or_tree = tree 0 (gate 1)

-- Terms left over are joined by ORs; no term left means never.
unfoldable pub joined : List ℕ → Make Entry
joined [] = return Never
joined (x ∷ ls) = do
  y ← or_tree (cut (length (x ∷ ls))) (x ∷ ls)
  return (Line y)

-- An entry of a product: the middle nodes go upward. If a term is always, so is the entry, and it makes no gate. All ANDs of one
-- entry come before its ORs.
unfoldable pub product_entry : ℕ → Matrix → Matrix → ℕ → ℕ → Make Entry
product_entry middle left right u v =
    elim (any middle (λ w. is_always (entry_at left u w) && is_always (entry_at right w v))) [
      | true ↦ return Always
      | false ↦
          sequence (λ w. term (entry_at left u w) (entry_at right w v)) middle 0 >>= λ ts. joined (lines_in ts)
    ]

-- A product's entries go row by row, and by column within a row.
unfoldable pub product : ℕ → ℕ → ℕ → Matrix → Matrix → Make Matrix
product rows middle columns left right = sequence (λ u. sequence (product_entry middle left right u) columns 0) rows 0

-- The matrix of one level makes no gate.
unfoldable pub level_matrix : Diagram → ℕ → Make Matrix
level_matrix d l = sequence (λ u. sequence (λ v. return (level_entry d l u v)) (width d (suc l)) 0) (width d l) 0

-- The block of the levels from l on: the left block's gates come first, then the right's, then those of the product.
unfoldable pub block : Diagram → Cut → ℕ → Make Matrix
block d one l = level_matrix d l
block d (two a b) l = do
  left ← block d a l
  right ← block d b (l + size a)
  product (width d l) (width d (l + size a)) (width d (l + size a + size b)) left right
