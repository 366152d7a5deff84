-- Entries by their lines, the lines among some terms, and the two ways in which an entry of a product comes.
use Prim.Native.Nat.{ℕ, ◌+◌, ◌*◌, ◌≤◌}
use native.Mathlib.Omega.{arith}
use mathlib.Core.Path.{◌≡◌, refl, sym, ◌∙◌}
use mathlib.Core.Bool.{Bool, true, false, ◌&&◌, cond}
use mathlib.Core.List.{List, [], ◌∷◌}
use borrow.Author.Tests.{eqb-true, eqb-false}
use lib.Dec.{eqb}
use lib.ListN.{length}
use Rattle.fields.specs.Bounded.{any}
use Rattle.rules.specs.declared.Entry.{Entry}
use Rattle.rules.specs.declared.Entry.TheVariants.{Never, Always, Line}
use Rattle.rules.specs.Make.{Make, return, ◌>>=◌, sequence}
use Rattle.rules.specs.Blocks.{Matrix, entry_at, node_entry, term, is_always, lines_in, joined, product_entry}
use Rattle.rules.proofs.Every.{Every, none, more}

-- An entry whose line, if it is one, has S.
pub data OfLine (S : ℕ → Type 0) : Entry → Type 0 where
  never : OfLine S Never
  always : OfLine S Always
  line : {x : ℕ} → S x → OfLine S (Line x)

-- The entry of a node is never, always, or, where its edges differ, one of its level's rails.
pub node-entry : {S : ℕ → Type 0} (zero-edge one-edge l v : ℕ) →
    ((zero-edge ≡ one-edge → ⊥) → S (2 + 2 * l) × S (3 + 2 * l)) → OfLine S (node_entry zero-edge one-edge l v)
node-entry {S} zero-edge one-edge l v rails = go (eqb one-edge v) (eqb zero-edge v) refl refl
  where
    go : (p q : Bool) → eqb one-edge v ≡ p → eqb zero-edge v ≡ q →
        OfLine S (cond p (cond q Always (Line (2 + 2 * l))) (cond q (Line (3 + 2 * l)) Never))
    go true true e f = always
    go true false e f = line (rails (λ same. eqb-false _ _ f (same ∙ eqb-true _ _ e))).0
    go false true e f = line (rails (λ same. eqb-false _ _ e (sym same ∙ eqb-true _ _ f))).1
    go false false e f = never

pub of_map : {S R : ℕ → Type 0} {t : Entry} → ((x : ℕ) → S x → R x) → OfLine S t → OfLine R t
of_map k never = never
of_map k always = always
of_map k (line s) = line (k _ s)

pub of-lines : {S : ℕ → Type 0} {ts : List Entry} → Every (OfLine S) ts → Every S (lines_in ts)
of-lines none = none
of-lines (more never e) = of-lines e
of-lines (more always e) = of-lines e
of-lines (more (line s) e) = more s (of-lines e)

pub lines-few : (ts : List Entry) → length (lines_in ts) ≤ length ts
lines-few [] = omega arith
lines-few (Never ∷ ts) = omega (arith, lines-few ts)
lines-few (Always ∷ ts) = omega (arith, lines-few ts)
lines-few (Line x ∷ ts) = omega (arith, lines-few ts)

either : {A : Type 0} (Q : A → Type 0) (x y : A) (t : Bool) → Q x → Q y → Q (elim t [ true ↦ x | false ↦ y ])
either Q x y true qx qy = qx
either Q x y false qx qy = qy

-- An entry of a product is always, or what comes of its terms.
pub entry-either : (Q : Make Entry → Type 0) (middle : ℕ) (left right : Matrix) (u v : ℕ) → Q (return Always) →
    Q (sequence (λ w. term (entry_at left u w) (entry_at right w v)) middle 0 >>= λ ts. joined (lines_in ts)) →
    Q (product_entry middle left right u v)
unfolding product_entry
entry-either Q middle left right u v =
    either Q (return Always) _ (any middle (λ w. is_always (entry_at left u w) && is_always (entry_at right w v)))
