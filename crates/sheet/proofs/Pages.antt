-- Rows one after another, under headings: where they end, what one more adds, and the whole sheet.
use borrow.Author.Tests.{ltb-true, ltb-false, eqb-true, eqb-false, lt-ltb, le-ltb, eq-eqb, ne_eqb}
use native.Mathlib.Nat.{add-zero}
use native.Mathlib.Omega.{arith}
use Prim.Native.Nat.{ℕ, suc, ◌+◌, ◌*◌, ◌/◌, ◌%◌, ◌≤◌}
use mathlib.Core.Path.{◌≡◌, refl, sym, ap, ap₂, ◌∙◌}
use mathlib.Core.Bool.{Bool, true, false, ◌&&◌, cond}
use mathlib.Core.List.{List, [], ◌∷◌, ◌++◌, append_assoc, append-nil}
use lib.Dec.{ltb, eqb}
use lib.ListN.{length, length-append}
use lib.Seq.{sets}
use Rattle.fields.specs.Bounded.{listed}
use Rattle.fields.proofs.Listed.{length-listed, listed_more}
use Rattle.files.specs.Room.{over}
use Rattle.files.proofs.WrittenLemmas.{onward}
use Rattle.files.proofs.Buffers.{sets_over}
use Rattle.netlist.specs.declared.Gate.{Gate}
use Rattle.netlist.specs.Netlist.{Netlist, gate_line}
use Rattle.sheet.specs.declared.row.Kind.{Kind}
use Rattle.sheet.specs.declared.row.Row.{Row}
use Rattle.sheet.specs.Sheet.{row_text, heading, heading_after, kind_of, gate_row, output_row, lamp_row, numbered_rows, rows_from, sheet_of}
use Rattle.sheet.specs.Inner.Places.{end_of, place_of}
use Rattle.sheet.proofs.Rows.{length-row}

-- Where no heading stands, and where one does.
pub first-row : (k : ℕ) → k ≡ 0 → heading_after k ≡ []
first-row k e = simp (le-ltb 0 k (omega arith))

pub page-inside : (k : ℕ) → (k % 50 ≡ 0 → ⊥) → heading_after k ≡ []
page-inside k h = simp (ne_eqb (k % 50) 0 h) (go (ltb 0 k))
  where
    go : (b : Bool) → cond (b && false) heading [] ≡ []
    go true = refl
    go false = refl

pub page-starts : (k : ℕ) → (k ≡ 0 → ⊥) → k % 50 ≡ 0 → (heading_after k ≡ heading) × (22 * (k + k / 50) ≡ end_of k)
page-starts k h e = (simp (lt-ltb 0 k (omega arith), eq-eqb (k % 50) 0 e), omega arith)

-- The heading above a row brings the end of the rows before it to the row's place.
heading-end : (k : ℕ) → end_of k + length (heading_after k) ≡ place_of k
heading-end k = go (ltb 0 k) (eqb (k % 50) 0) refl refl
  where
    go : (a b : Bool) → ltb 0 k ≡ a → eqb (k % 50) 0 ≡ b → end_of k + length (cond (a && b) heading []) ≡ place_of k
    go true true p q = let h = ltb-true 0 k p in let z = eqb-true (k % 50) 0 q in omega arith
    go true false p q = let h = ltb-true 0 k p in let z = eqb-false (k % 50) 0 q in omega arith
    go false b p q = let h = ltb-false 0 k p in omega arith

row-end : (k : ℕ) (r : Row) → end_of k + length (heading_after k ++ row_text r) ≡ end_of (suc k)
row-end k r =
    let h = heading-end k in
    let l = length-row r in
    simp length-append (omega arith)

rows_end : (k : ℕ) (rs : List Row) → end_of k + length (rows_from k rs) ≡ end_of (k + length rs)
unfolding rows_from
rows_end k [] = simp add-zero
rows_end k (r ∷ rs) =
    let one = row-end k r in
    let more = rows_end (suc k) rs in
    let l = length-append (heading_after k ++ row_text r) (rows_from (suc k) rs) in
    let e : suc k + length rs ≡ k + suc (length rs) = omega arith in
    rw (← e) (omega arith)

rows_append : (k : ℕ) (rs ss : List Row) → rows_from k (rs ++ ss) ≡ rows_from k rs ++ rows_from (k + length rs) ss
unfolding rows_from
rows_append k [] ss = ap (λ (i : ℕ). rows_from i ss) (sym (add-zero k))
rows_append k (r ∷ rs) ss =
    let e : suc k + length rs ≡ k + suc (length rs) = omega arith in
    ap (◌++◌ (heading_after k ++ row_text r)) (rows_append (suc k) rs ss ∙ ap (λ (i : ℕ). rows_from (suc k) rs ++ rows_from i ss) e)
    ∙ sym (append_assoc (heading_after k ++ row_text r) (rows_from (suc k) rs) (rows_from (k + suc (length rs)) ss))

module _ {A : Type 0} (row : ℕ → A → Row) where
  length-numbered : (k : ℕ) (xs : List A) → length (numbered_rows row k xs) ≡ length xs
  unfolding numbered_rows
  length-numbered k [] = refl
  length-numbered k (x ∷ xs) = ap suc (length-numbered (suc k) xs)

  numbered_more : (k : ℕ) (xs : List A) (x : A) → numbered_rows row k (xs ++ (x ∷ [])) ≡ numbered_rows row k xs ++ (row (k + length xs) x ∷ [])
  unfolding numbered_rows
  numbered_more k [] x = ap (λ (i : ℕ). row i x ∷ []) (sym (add-zero k))
  numbered_more k (y ∷ xs) x =
      ap (◌∷◌ (row k y)) (numbered_more (suc k) xs x ∙ ap (λ (i : ℕ). numbered_rows row (suc k) xs ++ (row i x ∷ [])) (omega arith))

  -- The rows of the first j of so many elements, numbered from k on, below so many others.
  module _ (text : List ℕ) (before k : ℕ) (at : ℕ → A) where
    abbrev rows_to : ℕ → List Row
    rows_to j = numbered_rows row k (listed at j 0)

    abbrev pub filled : ℕ → List ℕ
    filled j = sets text (end_of before) (rows_from before (rows_to j))

    pub none_filled : text ≡ filled 0
    unfolding rows_from numbered_rows listed
    none_filled = refl

    pub row_more : (j : ℕ) {i : ℕ} {r : Row} {now after : List ℕ} → now ≡ filled j → i ≡ before + j → r ≡ row (k + j) (at j) →
        after ≡ sets now (end_of i) (heading_after i ++ row_text r) → after ≡ filled (j + 1)
    unfolding rows_from
    row_more j {i} {r} n e o a =
        let l : length (rows_to j) ≡ j = length-numbered k (listed at j 0) ∙ length-listed at j 0 in
        let rows : rows_to (j + 1) ≡ rows_to j ++ (r ∷ []) =
        ap (numbered_rows row k) (listed_more at j) ∙ numbered_more k (listed at j 0) (at j)
        ∙ ap (λ (s : Row). rows_to j ++ (s ∷ [])) (ap (λ (m : ℕ). row (k + m) (at j)) (length-listed at j 0) ∙ sym o) in
        let end : end_of i ≡ end_of before + length (rows_from before (rows_to j)) =
        ap end_of (e ∙ ap (◌+◌ before) (sym l)) ∙ sym (rows_end before (rows_to j)) in
        let more : rows_from before (rows_to (j + 1)) ≡ rows_from before (rows_to j) ++ (heading_after i ++ row_text r) =
        ap (rows_from before) rows ∙ rows_append before (rows_to j) (r ∷ [])
        ∙ ap (λ (m : ℕ). rows_from before (rows_to j) ++ rows_from m (r ∷ [])) (ap (◌+◌ before) l ∙ sym e)
        ∙ ap (◌++◌ (rows_from before (rows_to j))) (append-nil (heading_after i ++ row_text r)) in
        onward text (end_of before) (rows_from before (rows_to j)) (heading_after i ++ row_text r) n a end
        ∙ ap (sets text (end_of before)) (sym more)

pub gate-row-is : (line : ℕ) {k : Kind} {m n : Gate} → k ≡ kind_of m.kind → m ≡ n →
    record { number = line; kind = k; first = m.left; second = m.right } ≡ gate_row line n
gate-row-is line {m = m} e g = ap (λ (k : Kind). record { number = line; kind = k; first = m.left; second = m.right }) e ∙ ap (gate_row line) g

-- A row below its heading.
pub next-written : (l : List ℕ) (k : ℕ) (r : Row) {m n : List ℕ} → m ≡ sets l (end_of k) (heading_after k) →
    n ≡ sets m (place_of k) (row_text r) → n ≡ sets l (end_of k) (heading_after k ++ row_text r)
next-written l k r d e = onward l (end_of k) (heading_after k) (row_text r) d e (sym (heading-end k))

-- More rows, below a sheet's heading and its first k rows.
rows-onward : (text : List ℕ) (k : ℕ) (rs ss : List Row) {now after : List ℕ} → 0 + length rs ≡ k →
    now ≡ sets text 0 (heading ++ rows_from 0 rs) → after ≡ sets now (end_of k) (rows_from k ss) →
    after ≡ sets text 0 (heading ++ rows_from 0 (rs ++ ss))
rows-onward text k rs ss count n a =
    let l = length-append heading (rows_from 0 rs) in
    let ends = rows_end 0 rs in
    onward text 0 (heading ++ rows_from 0 rs) (rows_from k ss) n a (rw (← count) (omega arith))
    ∙ ap (sets text 0)
    (append_assoc heading (rows_from 0 rs) (rows_from k ss)
    ∙ ap (◌++◌ heading) (ap (λ (i : ℕ). rows_from 0 rs ++ rows_from i ss) (sym count) ∙ sym (rows_append 0 rs ss)))

-- The heading, the gates' rows, the outputs' rows and the lamp's row are the sheet.
module _ (net : Netlist) where
  abbrev pub gate_rows : List Row
  gate_rows = numbered_rows gate_row (gate_line net.contacts) net.gates

  abbrev pub output_rows : List Row
  output_rows = numbered_rows output_row 0 net.pairs

  abbrev pub lamp_rows : List Row
  lamp_rows = numbered_rows lamp_row 0 net.lamp

  -- How many rows stand above the lamp's, and how many there are.
  abbrev above : ℕ
  above = length net.gates + length net.pairs

  abbrev row_count : ℕ
  row_count = above + length net.lamp

  gates-counted : 0 + length gate_rows ≡ length net.gates
  gates-counted = let g = length-numbered gate_row (gate_line net.contacts) net.gates in omega arith

  outputs-counted : 0 + length (gate_rows ++ output_rows) ≡ above
  outputs-counted =
      let g = gates-counted in
      let p = length-numbered output_row 0 net.pairs in
      let c = length-append gate_rows output_rows in
      omega arith

  rows-counted : 0 + length (gate_rows ++ output_rows ++ lamp_rows) ≡ row_count
  rows-counted =
      let p = outputs-counted in
      let m = length-numbered lamp_row 0 net.lamp in
      let c = length-append (gate_rows ++ output_rows) lamp_rows in
      omega arith

  pub sheet-end : length (sheet_of net) ≡ end_of row_count
  unfolding sheet_of
  sheet-end =
      let rows = gate_rows ++ output_rows ++ lamp_rows in
      length-append heading (rows_from 0 rows) ∙ rows_end 0 rows ∙ ap end_of rows-counted

  pub sheet-written : (text : List ℕ) {m n : ℕ} {a b c d : List ℕ} → length net.gates ≡ m → length net.pairs ≡ n →
      end_of row_count ≤ length text → a ≡ sets text 0 heading → b ≡ sets a (end_of 0) (rows_from 0 gate_rows) →
      c ≡ sets b (end_of m) (rows_from m output_rows) → d ≡ sets c (end_of (m + n)) (rows_from (m + n) lamp_rows) →
      d ≡ over (sheet_of net) text
  unfolding sheet_of rows_from
  sheet-written text {m} {n} some few room h e f g =
      let gates = rows-onward text 0 [] gate_rows refl h e in
      let outputs = rows-onward text m gate_rows output_rows (gates-counted ∙ some) gates f in
      rows-onward text (m + n) (gate_rows ++ output_rows) lamp_rows (outputs-counted ∙ ap₂ ◌+◌ some few) outputs g
      ∙ sets_over (sheet_of net) text (rw sheet-end room)
