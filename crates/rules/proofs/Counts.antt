-- How many gates are made: by a tree, an entry, a product.
use Prim.Native.Nat.{ℕ, zero, suc, ◌+◌, ◌*◌, ◌-◌, ◌≤◌}
use native.Mathlib.Nat.{mul-le-mul, mul_assoc}
use native.Mathlib.Omega.{arith}
use mathlib.Core.Path.{◌≡◌}
use mathlib.Core.List.{List, [], ◌∷◌}
use lib.ListN.{length, length-append, take, drop}
use Rattle.rules.specs.declared.Entry.{Entry}
use Rattle.rules.specs.declared.Entry.TheVariants.{Never, Always, Line}
use Rattle.rules.specs.Make.{Make, return, ◌>>=◌, gate, sequence}
use Rattle.rules.specs.Blocks.{Cut, one, two, size, cut, Matrix, entry_at, term, lines_in, tree, or_tree, joined, product_entry, product}
use Rattle.rules.specs.Formulas.{product_most}
use Rattle.rules.proofs.Cuts.{size-cut}
use Rattle.rules.proofs.Entries.{lines-few, entry-either}

-- The number of gates that m makes, and its result, have R.
pub record Counts {A : Type 0} (m : Make A) (R : ℕ → A → Type 0) : Type 0 where
  pub from : (next : ℕ) → R (length (m next).0) (m next).1

abbrev pub Most : {A : Type 0} → ℕ → Make A → Type 0
Most k m = Counts m (λ j _. j ≤ k)

module _ {A : Type 0} {R : ℕ → A → Type 0} where
  pub return-count : {a : A} → R 0 a → Counts (return a) R
  return-count r = record { from = λ _. r }

  pub bind-count : {B : Type 0} {m : Make B} {f : B → Make A} {S : ℕ → B → Type 0} → Counts m S →
      ((j : ℕ) (b : B) → S j b → Counts (f b) (λ k a. R (j + k) a)) → Counts (m >>= f) R
  unfolding ◌>>=◌
  bind-count {m = m} c k = record { from = λ next. rw (length-append (m next).0) ((k _ _ (c.from next)).from _) }

  pub weaken-count : {m : Make A} {S : ℕ → A → Type 0} → Counts m S → ((j : ℕ) (a : A) → S j a → R j a) → Counts m R
  weaken-count c k = record { from = λ next. k _ _ (c.from next) }

gate-count : {kind a b : ℕ} {R : ℕ → ℕ → Type 0} → ((x : ℕ) → R 1 x) → Counts (gate kind a b) R
gate-count r = record { from = r }

pub sequence-count : {A : Type 0} (f : ℕ → Make A) (k : ℕ) → ((p : ℕ) → Most k (f p)) → (count p : ℕ) →
    Most (count * k) (sequence f count p)
unfolding sequence
sequence-count f k few zero p = return-count (omega arith)
sequence-count f k few (suc count) p =
    bind-count (few p) (λ i a le.
    bind-count (sequence-count f k few count (suc p)) (λ j made les. return-count (omega arith)))

-- A tree each of whose joins makes k gates.
pub tree-count : {A : Type 0} (none : A) (join : A → A → Make A) (k : ℕ) → ((x y : A) → Counts (join x y) (λ j _. j ≡ k)) →
    (c : Cut) (xs : List A) → Counts (tree none join c xs) (λ j _. j + k ≡ size c * k)
unfolding tree
tree-count none join k each one xs = return-count (omega arith)
tree-count none join k each (two a b) xs =
    bind-count (tree-count none join k each a (take (size a) xs)) (λ h x p.
    bind-count (tree-count none join k each b (drop (size a) xs)) (λ i y q.
    weaken-count (each x y) (λ j z e. omega arith)))

-- An OR tree of m terms makes m - 1 gates.
pub or_count : (c : Cut) (ls : List ℕ) → Counts (or_tree c ls) (λ k _. suc k ≡ size c)
or_count c ls = weaken-count (tree-count 0 (gate 1) 1 (λ x y. gate-count (λ z. omega arith)) c ls) (λ k y e. omega arith)

joined-count : (ls : List ℕ) → Most (length ls - 1) (joined ls)
unfolding joined
joined-count [] = return-count (omega arith)
joined-count (x ∷ ls) =
    bind-count (or_count (cut (length (x ∷ ls))) (x ∷ ls)) (λ k y p.
    return-count (omega (arith, size-cut (suc (length ls)) (omega arith))))

-- A term's AND is a line among the terms.
term-count : (x y : Entry) →
    Counts (term x y) (λ k t. (ts : List Entry) → k + length (lines_in ts) ≤ length (lines_in (t ∷ ts)))
unfolding term
term-count Never y = return-count (λ ts. omega arith)
term-count Always Never = return-count (λ ts. omega arith)
term-count Always Always = return-count (λ ts. omega arith)
term-count Always (Line b) = return-count (λ ts. omega arith)
term-count (Line a) Never = return-count (λ ts. omega arith)
term-count (Line a) Always = return-count (λ ts. omega arith)
term-count (Line a) (Line b) =
    bind-count (gate-count {R = λ k x. k ≡ 1} (λ x. omega arith)) (λ k x p. return-count (λ ts. omega arith))

pub terms-count : (f g : ℕ → Entry) (count p : ℕ) →
    Counts (sequence (λ w. term (f w) (g w)) count p) (λ k ts. (k ≤ length (lines_in ts)) × (length ts ≡ count))
unfolding sequence
terms-count f g zero p = return-count (omega arith)
terms-count f g (suc count) p =
    bind-count (term-count (f p) (g p)) (λ i t le.
    bind-count (terms-count f g count (suc p)) (λ j ts les. return-count (omega (arith, le ts))))

-- An entry of a product over r middle nodes makes at most 2 r - 1 gates.
pub entry-count : (middle : ℕ) (left right : Matrix) (u v : ℕ) →
    Most (2 * middle - 1) (product_entry middle left right u v)
entry-count middle left right u v =
    entry-either (Most (2 * middle - 1)) middle left right u v (return-count (omega arith))
    (bind-count (terms-count (entry_at left u) (λ w. entry_at right w v) middle 0) (λ i ts le.
    weaken-count (joined-count (lines_in ts)) (λ j x more. omega (arith, lines-few ts))))

-- A product over p, r and q nodes makes at most p * q * (2 r - 1).
pub product-count : (rows middle columns : ℕ) (left right : Matrix) →
    Most (rows * (columns * (2 * middle - 1))) (product rows middle columns left right)
unfolding product
product-count rows middle columns left right =
    sequence-count _ _ (λ u. sequence-count _ _ (entry-count middle left right u) columns 0) rows 0

pub product-within : (w rows middle columns : ℕ) (left right : Matrix) → rows ≤ w → middle ≤ w → columns ≤ w →
    Most (product_most w) (product rows middle columns left right)
product-within w rows middle columns left right hr hm hc =
    weaken-count (product-count rows middle columns left right) (λ k m le.
    let most : rows * (columns * (2 * middle - 1)) ≤ w * (w * (2 * w - 1)) = mul-le-mul hr (mul-le-mul hc (omega arith)) in
    omega (arith, mul_assoc w w (2 * w - 1)))
