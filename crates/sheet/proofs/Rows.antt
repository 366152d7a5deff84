-- The text of a row, column by column.
use native.Mathlib.Omega.{arith}
use Prim.Native.Nat.{ℕ, ◌+◌}
use mathlib.Core.Path.{◌≡◌, refl, sym, ap, ◌∙◌}
use mathlib.Core.List.{List, [], ◌∷◌, ◌++◌}
use lib.ListN.{length, length-append}
use lib.Seq.{sets}
use Rattle.files.proofs.WrittenLemmas.{onward}
use Rattle.sheet.specs.declared.row.Kind.{Kind}
use Rattle.sheet.specs.declared.row.Kind.TheVariants.{And, Or, Out, Lamp}
use Rattle.sheet.specs.declared.row.Row.{Row}
use Rattle.sheet.specs.Sheet.{in_five, row_text}
use Rattle.sheet.specs.Inner.Places.{kind_column}
use Rattle.sheet.proofs.Columns.{signs, in-five}

-- A row by its columns, each with the sign behind it.
abbrev pub columns : ℕ → Kind → ℕ → ℕ → List ℕ
columns n k a b = (signs n ++ (32 ∷ [])) ++ kind_column k ++ (signs a ++ (32 ∷ [])) ++ (signs b ++ (10 ∷ []))

pub columns-are : (n : ℕ) (k : Kind) (a b : ℕ) → row_text (record { number = n; kind = k; first = a; second = b }) ≡ columns n k a b
unfolding row_text
columns-are n And a b = rw (in-five n, in-five a, in-five b)
columns-are n Or a b = rw (in-five n, in-five a, in-five b)
columns-are n Out a b = rw (in-five n, in-five a, in-five b)
columns-are n Lamp a b = rw (in-five n, in-five a, in-five b)

length-columns : (n : ℕ) (k : Kind) (a b : ℕ) → length (columns n k a b) ≡ 22
length-columns n And a b = refl
length-columns n Or a b = refl
length-columns n Out a b = refl
length-columns n Lamp a b = refl

pub length-row : (r : Row) → length (row_text r) ≡ 22
length-row r = let k = r.kind in ap length (columns-are r.number k r.first r.second) ∙ length-columns r.number k r.first r.second

length-kind : (k : Kind) → length (kind_column k) ≡ 4
length-kind And = refl
length-kind Or = refl
length-kind Out = refl
length-kind Lamp = refl

pub row_written : (l : List ℕ) (i n : ℕ) (k : Kind) (a b : ℕ) {t u v w : List ℕ} → t ≡ sets l i (in_five n ++ (32 ∷ [])) →
    u ≡ sets t (i + 6) (kind_column k) → v ≡ sets u (i + 10) (in_five a ++ (32 ∷ [])) → w ≡ sets v (i + 16) (in_five b ++ (10 ∷ [])) →
    w ≡ sets l i (row_text (record { number = n; kind = k; first = a; second = b }))
row_written l i n k a b d e f g =
    go (kind_column k) (length-kind k) (rw (in-five n) at d) e (rw (in-five a) at f) (rw (in-five b) at g)
    ∙ ap (sets l i) (sym (columns-are n k a b))
  where
    go : (c : List ℕ) {t u v w : List ℕ} → length c ≡ 4 → t ≡ sets l i (signs n ++ (32 ∷ [])) → u ≡ sets t (i + 6) c →
        v ≡ sets u (i + 10) (signs a ++ (32 ∷ [])) → w ≡ sets v (i + 16) (signs b ++ (10 ∷ [])) →
        w ≡ sets l i ((signs n ++ (32 ∷ [])) ++ c ++ (signs a ++ (32 ∷ [])) ++ (signs b ++ (10 ∷ [])))
    go c h d e f g =
        let number : List ℕ = signs n ++ (32 ∷ []) in
        let first : List ℕ = signs a ++ (32 ∷ []) in
        let two = onward l i number c d e (omega arith) in
        let three = onward l i (number ++ c) first two f (omega arith) in
        onward l i (number ++ c ++ first) (signs b ++ (10 ∷ [])) three g (omega (arith, length-append c first))
