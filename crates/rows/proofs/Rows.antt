-- Truth tables one after the other are blocks, each at a multiple of its length, and give the functions of their values.
use Prim.Native.Nat.{ℕ, zero, suc, ◌+◌, ◌*◌, ◌-◌, ◌/◌, ◌%◌, ◌^◌, ◌≤◌, ◌<◌}
use native.Mathlib.Decide.{ℕ_discrete, dec_le}
use native.Mathlib.Nat.{mul-le-mul_right, mul_assoc, mul_left_comm, mul-mod_left, mod_self, div-add-mod', suc-mul}
use native.Mathlib.Omega.{arith}
use mathlib.Core.Path.{◌≡◌, sym, ap, ap₂, ◌∙◌}
use mathlib.Core.Logic.{by_cases}
use mathlib.Core.List.{List}
use lib.ListN.{length, get_or}
use lib.Pow.{pow-add, pow_mono, shl_exact}
use denote.Param.Members.{Mut}
use Rattle.std.proofs.lemmas.List.{get_or_default}
use Rattle.std.specs.Array.{IsFromFnResultFrom}
use Rattle.std.specs.Fn.{Called}
use Rattle.diagram.specs.Diagram.{Input}
use Rattle.bits.specs.Inner.Bits.{bit_of}
use Rattle.functions.specs.Functions.{functions_of}
use Rattle.functions.proofs.Trees.{Values}
use Rattle.canonical.specs.Inner.Blocks.{bit_in, block_at, mention_at, input_at, Blocks}
use Rattle.canonical.specs.Service.{tabling_of}
use Rattle.canonical.proofs.Outcomes.{tabling-same}
use Rattle.canonical.proofs.Tabulated.{block-is}
use Rattle.rows.specs.Inner.Rows.{row_at, Word, Tabulated}

-- What an array made by a function holds, if the function computes h and stays as it was.
pub made : {F : Type 0} (g : Mut F (ℕ × Unit {0}) ℕ) (f : F) (ys : List ℕ) (h : ℕ → ℕ) →
    ((i y : ℕ) (q : F) → Called g f (i, tt) y q → (q ≡ f) × (y ≡ h i)) → (n i : ℕ) → IsFromFnResultFrom g f ys i n →
    (k : ℕ) → i ≤ k → k < i + n → get_or ys k 0 ≡ h k
made g f ys h law zero i e k a b = absurd (omega arith)
made g f ys h law (suc n) i (q, y, at, called, rest) k a b =
    let (stays, is) = law i y q called in
    by_cases (ℕ_discrete k i) (λ e. rw e (at.1 0 ∙ is))
    (λ ne. made g f ys h law n (i + 1) (rw stays at rest) k (omega arith) (omega arith))

pub words-few : (n : ℕ) → n ≤ 12 → 2 ^ (n - 6) ≤ 64
words-few n h = pow_mono {j = 6} (omega arith)

-- Where a row begins, by a shift, and that it has room.
pub row-place : (n fixed j : ℕ) → n ≤ 12 → fixed ≡ n - 6 → j ≤ 8 →
    (j * 2 ^ fixed % 2 ^ 64 ≡ j * 2 ^ (n - 6)) × (j * 2 ^ (n - 6) ≤ 512)
row-place n fixed j h e g =
    (rw e (shl_exact 4 (n - 6) 64 (omega arith) (omega arith)), omega (arith, words-few n h, mul-le-mul_right {m = j} {n = 8} (2 ^ (n - 6)) g))

pub row_room : (n j m room : ℕ) → j < m → m * 2 ^ (n - 6) ≤ room → j * 2 ^ (n - 6) + 2 ^ (n - 6) ≤ room
row_room n j m room h g = omega (arith, suc-mul j (2 ^ (n - 6)), mul-le-mul_right {m = suc j} {n = m} (2 ^ (n - 6)) h)

-- So many words hold a truth table, and a whole number of them.
pub words-enough : (n : ℕ) → (2 ^ n ≤ 64 * 2 ^ (n - 6)) × (64 * 2 ^ (n - 6) % 2 ^ n ≡ 0)
words-enough n = by_cases (dec_le 6 n) many few
  where
    many : 6 ≤ n → (2 ^ n ≤ 64 * 2 ^ (n - 6)) × (64 * 2 ^ (n - 6) % 2 ^ n ≡ 0)
    many h =
        let e : 64 * 2 ^ (n - 6) ≡ 2 ^ n = sym (pow-add 2 6 (n - 6)) ∙ ap (◌^◌ 2) (omega arith) in
        (omega arith, ap (λ (x : ℕ). x % 2 ^ n) e ∙ mod_self (2 ^ n))

    few : (6 ≤ n → ⊥) → (2 ^ n ≤ 64 * 2 ^ (n - 6)) × (64 * 2 ^ (n - 6) % 2 ^ n ≡ 0)
    few h =
        let none : n - 6 ≡ 0 = omega arith in
        let p : 2 ^ n ≤ 64 = pow_mono {j = 6} (omega arith) in
        let e : 64 * 2 ^ (n - 6) ≡ 2 ^ (6 - n) * 2 ^ n =
        ap (λ (i : ℕ). 64 * 2 ^ i) none ∙ ap (◌^◌ 2) (let s : 6 ≡ 6 - n + n = omega arith in s) ∙ pow-add 2 (6 - n) n in
        (rw none (omega arith), ap (λ (x : ℕ). x % 2 ^ n) e ∙ mul-mod_left (2 ^ (6 - n)) (2 ^ n))

whole_row : (n j : ℕ) → 64 * (j * 2 ^ (n - 6)) % 2 ^ n ≡ 0
whole_row n j =
    let words = 2 ^ (n - 6) in
    let a = 64 * words / 2 ^ n in
    let e : 64 * words ≡ a * 2 ^ n = omega (arith, div-add-mod' (64 * words) (2 ^ n), (words-enough n).1) in
    ap (λ (k : ℕ). k % 2 ^ n) (mul_left_comm 64 j words ∙ ap (◌*◌ j) e ∙ sym (mul_assoc j a (2 ^ n))) ∙ mul-mod_left (j * a) (2 ^ n)

-- The rows by the places where they begin.
module _ (n m : ℕ) (truths starts : List ℕ) (count : length starts ≡ m)
    (begins : (j : ℕ) → j < m → get_or starts j 0 ≡ 64 * (j * 2 ^ (n - 6))) where
  pub row-blocks : m * 2 ^ (n - 6) ≤ length truths → Blocks truths n starts
  row-blocks room j d l =
      rw (get_or_default starts j d 0 l, begins j (omega arith)) (record {
        whole = whole_row n j;
        within = omega (arith, (words-enough n).0, row_room n j m (length truths) (omega arith) room);
      })

  pub rows-begin : (buffer : List ℕ) →
      tabling_of n (length starts) (mention_at truths n starts) buffer ≡ tabling_of n m (row_at truths n) buffer
  rows-begin buffer =
      ap (λ (m : ℕ). tabling_of n m (mention_at truths n starts) buffer) count
      ∙ tabling-same n m (mention_at truths n starts) (row_at truths n) buffer (λ j h. ap (block_at truths n) (begins j h))

-- One row more.
pub no_rows : (n : ℕ) (v : ℕ → Input → ℕ) (truths : List ℕ) → Tabulated n 0 v truths
no_rows n v truths = record { held = λ j w h g. absurd (omega arith) }

pub one-row : (n : ℕ) (v : ℕ → Input → ℕ) (j : ℕ) (before after : List ℕ) →
    ((w : ℕ) → w < 2 ^ (n - 6) → Word n (v j) w (get_or after (j * 2 ^ (n - 6) + w) 0)) →
    ((i : ℕ) → i < j * 2 ^ (n - 6) → get_or after i 0 ≡ get_or before i 0) → Tabulated n j v before → Tabulated n (j + 1) v after
one-row n v j before after row others t =
    record {
      held = λ i w h g. by_cases (ℕ_discrete i j) (λ e. rw e (row w g)) (λ ne. record {
        bits = λ k l.
            ap (bit_of k) (others (i * words + w) (omega (arith, suc-mul i words, mul-le-mul_right {m = suc i} {n = j} words (omega arith))))
            ∙ (t.held i w (omega arith) g).bits k l;
      });
    }
  where
    words : ℕ
    words = 2 ^ (n - 6)

-- Rows that are the truth tables of some values give the table of their functions.
module _ (n m : ℕ) (v : ℕ → Input → ℕ) (truths : List ℕ) (values : (j : ℕ) → j < m → Values n (v j)) (t : Tabulated n m v truths) where
  row-value : (j q : ℕ) → j < m → q < 2 ^ n → bit_in truths (64 * (j * 2 ^ (n - 6)) + q) ≡ v j (input_at n q)
  row-value j q h g =
      let row = j * 2 ^ (n - 6) in
      let w = q / 64 in
      let k = q % 64 in
      let inside : w < 2 ^ (n - 6) = omega (arith, (words-enough n).0) in
      let word : (64 * row + q) / 64 ≡ row + w = omega arith in
      let low : (64 * row + q) % 64 ≡ k = omega arith in
      let whole : 64 * w + k ≡ q = omega arith in
      ap₂ (λ (b i : ℕ). bit_of b (get_or truths i 0)) low word
      ∙ (t.held j w h inside).bits k (omega arith)
      ∙ ap (λ (p : ℕ). v j (input_at n p)) whole

  pub rows-tabled : (buffer : List ℕ) → tabling_of n m (row_at truths n) buffer ≡ tabling_of n m (functions_of n v) buffer
  rows-tabled buffer =
      tabling-same n m (row_at truths n) (functions_of n v) buffer (λ j h.
      block-is n truths (64 * (j * 2 ^ (n - 6))) (v j) (values j h) (λ q g. row-value j q h g))
