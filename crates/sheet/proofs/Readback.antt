-- A row's text determines the row, and the rows' texts the rows: numbers below 100,000 are read back from their signs.
use borrow.Author.Tests.{ltb-true}
use native.Mathlib.Nat.{add-zero}
use native.Mathlib.Omega.{arith}
use Prim.Native.Nat.{ℕ, suc, ◌+◌, ◌*◌, ◌/◌, ◌%◌, ◌<◌}
use mathlib.Core.Path.{◌≡◌, refl, sym, ap, ap₂, ◌∙◌}
use mathlib.Core.Bool.{Bool, true, false, cond}
use mathlib.Core.List.{List, [], ◌∷◌, ◌++◌}
use lib.Dec.{ltb, eqb}
use lib.ListN.{length, get_or, take, drop, length-append}
use lib.Seq.{take_at, drop_at, drop-append_seam}
use Rattle.fields.proofs.Every.{Every}
use Rattle.sheet.specs.declared.row.Kind.{Kind}
use Rattle.sheet.specs.declared.row.Kind.TheVariants.{And, Or, Out, Lamp}
use Rattle.sheet.specs.declared.row.Row.{Row}
use Rattle.sheet.specs.Sheet.{row_text, heading_after, numbered_rows, rows_from}
use Rattle.sheet.specs.Inner.Places.{sign_at}
use Rattle.sheet.proofs.Rows.{columns, columns-are, length-row}

-- A blank counts as 0, like the digit 0.
sign-value : (p x : ℕ) → (x < p → x / p % 10 ≡ 0) → sign_at p x % 16 ≡ x / p % 10
sign-value p x h = go (ltb x p) refl
  where
    go : (b : Bool) → ltb x p ≡ b → cond b 32 (48 + x / p % 10) % 16 ≡ x / p % 10
    go true e = sym (h (ltb-true x p e))
    go false e = omega arith

-- The number whose signs begin at a place.
abbrev number_in : List ℕ → ℕ → ℕ
number_in l i =
    10000 * (get_or l i 0 % 16) + 1000 * (get_or l (i + 1) 0 % 16) + 100 * (get_or l (i + 2) 0 % 16) + 10 * (get_or l (i + 3) 0 % 16)
    + get_or l (i + 4) 0 % 16

-- A number of five digits from its digits.
digits_value : (x a b c d q r s t : ℕ) → x ≡ 10 * a + t → a ≡ 10 * b + s → b ≡ 10 * c + r → c ≡ 10 * d + q →
    10000 * d + 1000 * q + 100 * r + 10 * s + t ≡ x
digits_value x a b c d q r s t e f g h = omega arith

signs-value : (x : ℕ) → x < 100000 →
    10000 * (sign_at 10000 x % 16) + 1000 * (sign_at 1000 x % 16) + 100 * (sign_at 100 x % 16) + 10 * (sign_at 10 x % 16) + (48 + x % 10) % 16
    ≡ x
signs-value x h =
    let top : x / 10000 % 10 ≡ x / 10000 = omega arith in
    let last : (48 + x % 10) % 16 ≡ x % 10 = omega arith in
    rw (
      sign-value 10000 x (λ l. omega arith),
      sign-value 1000 x (λ l. omega arith),
      sign-value 100 x (λ l. omega arith),
      sign-value 10 x (λ l. omega arith),
      top,
      last,
    )
    (digits_value x (x / 10) (x / 100) (x / 1000) (x / 10000) _ _ _ _ (omega arith) (omega arith) (omega arith) (omega arith))

-- The kinds differ in their third letter: D, a blank, T, P.
abbrev kind_by : ℕ → Kind
kind_by sign = cond (eqb sign 68) And (cond (eqb sign 32) Or (cond (eqb sign 84) Out Lamp))

abbrev row_in : List ℕ → Row
row_in l = record { number = number_in l 0; kind = kind_by (get_or l 8 0); first = number_in l 10; second = number_in l 16 }

-- Every number of a row has at most five digits.
pub record SmallRow (r : Row) : Type 0 where
  pub number : r.number < 100000
  pub first : r.first < 100000
  pub second : r.second < 100000

read_back : (n : ℕ) (k : Kind) (a b : ℕ) → n < 100000 → a < 100000 → b < 100000 →
    row_in (columns n k a b) ≡ record { number = n; kind = k; first = a; second = b }
read_back n And a b p q r = λ i. record { number = signs-value n p i; kind = And; first = signs-value a q i; second = signs-value b r i }
read_back n Or a b p q r = λ i. record { number = signs-value n p i; kind = Or; first = signs-value a q i; second = signs-value b r i }
read_back n Out a b p q r = λ i. record { number = signs-value n p i; kind = Out; first = signs-value a q i; second = signs-value b r i }
read_back n Lamp a b p q r = λ i. record { number = signs-value n p i; kind = Lamp; first = signs-value a q i; second = signs-value b r i }

read-row : (r : Row) → SmallRow r → row_in (row_text r) ≡ r
read-row r s =
    ap row_in (columns-are r.number r.kind r.first r.second)
    ∙ read_back r.number r.kind r.first r.second s.number s.first s.second

row_same : (r s : Row) → SmallRow r → SmallRow s → row_text r ≡ row_text s → r ≡ s
row_same r s p q e = sym (read-row r p) ∙ ap row_in e ∙ read-row s q

pub every-numbered : {A : Type 0} (P : Row → Type 0) (row : ℕ → A → Row) (k : ℕ) (xs : List A) (d : A) →
    ((i : ℕ) → i < length xs → P (row (k + i) (get_or xs i d))) → Every P (numbered_rows row k xs)
unfolding numbered_rows
every-numbered P row k [] d h = tt
every-numbered P row k (x ∷ xs) d h =
    let next : (i : ℕ) → i < length xs → P (row (suc k + i) (get_or xs i d)) = λ i l.
    let e : k + suc i ≡ suc k + i = omega arith in rw e at (h (suc i) (omega arith)) in
    (rw add-zero at (h 0 (omega arith)), every-numbered P row (suc k) xs d next)

-- The rows' texts determine the rows.
short : (k : ℕ) (r : Row) (rs : List Row) → length (heading_after k ++ row_text r ++ rows_from (suc k) rs) ≡ 0 → ⊥
short k r rs e =
    let l = length-append (heading_after k ++ row_text r) (rows_from (suc k) rs) in
    let m = length-append (heading_after k) (row_text r) in
    omega (arith, length-row r)

pub rows_same : (k : ℕ) (rs ss : List Row) → Every SmallRow rs → Every SmallRow ss → rows_from k rs ≡ rows_from k ss → rs ≡ ss
unfolding rows_from
rows_same k [] [] p q e = refl
rows_same k [] (s ∷ ss) p q e = absurd (short k s ss (sym (ap length e)))
rows_same k (r ∷ rs) [] p q e = absurd (short k r rs (ap length e))
rows_same k (r ∷ rs) (s ∷ ss) p q e =
    let h = heading_after k in
    let m = length-append h (row_text r) in
    let n = length-append h (row_text s) in
    let same : length (h ++ row_text s) ≡ length (h ++ row_text r) = omega (arith, length-row r, length-row s) in
    let first =
    sym (take_at (h ++ row_text r) _ _ refl) ∙ ap (take (length (h ++ row_text r))) e ∙ take_at (h ++ row_text s) _ _ same in
    let rest = sym (drop_at (h ++ row_text r) _ _ refl) ∙ ap (drop (length (h ++ row_text r))) e ∙ drop_at (h ++ row_text s) _ _ same in
    let row = sym (drop-append_seam h (row_text r)) ∙ ap (drop (length h)) first ∙ drop-append_seam h (row_text s) in
    ap₂ ◌∷◌ (row_same r s p.0 q.0 row) (rows_same (suc k) rs ss p.1 q.1 rest)
