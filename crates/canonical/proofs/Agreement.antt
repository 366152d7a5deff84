-- Blocks of truth tables are the same functions where their bits agree, and where the words or parts of words that hold them do.
use Prim.Native.Nat.{ℕ, zero, suc, ◌+◌, ◌-◌, ◌*◌, ◌/◌, ◌%◌, ◌^◌, ◌≤◌, ◌<◌}
use native.Mathlib.Nat.{add-zero, mod-lt}
use native.Mathlib.Decide.{dec_lt}
use native.Mathlib.Omega.{arith}
use mathlib.Core.Path.{◌≡◌, refl, sym, ap, ap₂, ◌∙◌}
use mathlib.Core.Logic.{by_cases}
use mathlib.Core.Bool.{Bool, true, false}
use mathlib.Core.List.{List}
use borrow.Author.Tests.{eqb-true, eq-eqb}
use lib.Dec.{eqb}
use lib.ListN.{length, get_or}
use lib.Pow.{pow_pos, pow-lt, pow-add, shr-shr, field, mod-mod-pow}
use Rattle.std.specs.Bool.{Decides}
use Rattle.std.specs.List.{between}
use Rattle.std.proofs.lemmas.List.{ext_get_or}
use Rattle.std.proofs.lemmas.List.Edits.{get_or-between, length-between}
use Rattle.bits.specs.Inner.Bits.{bit_of}
use Rattle.bits.proofs.Bits.{bits-same, bits-of}
use Rattle.functions.specs.Functions.{Function, constant, choice, half, same}
use Rattle.functions.proofs.Places.{same_true, same_refl}
use Rattle.canonical.specs.Inner.Blocks.{bit_in, block_at, Block}

-- A test that holds exactly where two functions are the same.
same_by : (f g : Function) (r : Bool) → (r ≡ true → f ≡ g) → (f ≡ g → r ≡ true) → r ≡ same f g
same_by f g true h k = sym (ap (same f) (sym (h refl)) ∙ same_refl f)
same_by f g false h k = go (same f g) refl
  where
    go : (b : Bool) → same f g ≡ b → false ≡ b
    go true e = k (same_true f g e)
    go false e = refl

halves : {f g h k : Function} → choice f g ≡ choice h k → (f ≡ h) × (g ≡ k)
halves e = (ap (half false) e, ap (half true) e)

abbrev leaf : Function → ℕ
leaf (constant v) = v
leaf (choice f g) = 0

module _ (ws : List ℕ) where
  blocks-same : (left a b : ℕ) → ((i : ℕ) → i < 2 ^ left → bit_in ws (a + i) ≡ bit_in ws (b + i)) →
      block_at ws left a ≡ block_at ws left b
  unfolding block_at
  blocks-same zero a b h = ap constant (ap (bit_in ws) (sym (add-zero a)) ∙ h 0 (omega arith) ∙ ap (bit_in ws) (add-zero b))
  blocks-same (suc left) a b h =
      ap₂ choice (blocks-same left a b (λ i l. h i (omega arith)))
      (blocks-same left (a + 2 ^ left) (b + 2 ^ left) (λ i l.
      ap (bit_in ws) (omega arith) ∙ h (2 ^ left + i) (omega arith) ∙ ap (bit_in ws) (omega arith)))

  blocks-bits : (left a b : ℕ) → block_at ws left a ≡ block_at ws left b → (i : ℕ) → i < 2 ^ left →
      bit_in ws (a + i) ≡ bit_in ws (b + i)
  unfolding block_at
  blocks-bits zero a b e i l = ap (bit_in ws) (omega arith) ∙ ap leaf e ∙ ap (bit_in ws) (omega arith)
  blocks-bits (suc left) a b e i l =
      by_cases (dec_lt i (2 ^ left)) (λ h. blocks-bits left a b (halves e).0 i h)
      (λ h.
      ap (bit_in ws) (omega arith)
      ∙ blocks-bits left (a + 2 ^ left) (b + 2 ^ left) (halves e).1 (i - 2 ^ left) (omega arith)
      ∙ ap (bit_in ws) (omega arith))

-- The bits of a part of a word.
part-bit : (w s k i : ℕ) → i < k → bit_of i (w / 2 ^ s % 2 ^ k) ≡ bit_of (s + i) w
part-bit w s k i l =
    let j = k - i - 1 in
    let e : k ≡ j + 1 + i = omega arith in
    ap (λ (k : ℕ). bit_of i (w / 2 ^ s % 2 ^ k)) e
    ∙ ap (λ (x : ℕ). x % 2) (field (w / 2 ^ s) (j + 1) i)
    ∙ mod-mod-pow (w / 2 ^ s / 2 ^ i) j 1
    ∙ ap (λ (x : ℕ). x % 2) (shr-shr w s i)

-- A block of fewer than 64 bits lies within a word.
inside : (left start i : ℕ) → left < 6 → start % 2 ^ left ≡ 0 → i < 2 ^ left →
    (start / 64 ≡ (start + i) / 64) × (start % 64 + i ≡ (start + i) % 64)
inside zero start i h e l = (omega arith, omega arith)
inside (suc zero) start i h e l = (omega arith, omega arith)
inside (suc (suc zero)) start i h e l = (omega arith, omega arith)
inside (suc (suc (suc zero))) start i h e l = (omega arith, omega arith)
inside (suc (suc (suc (suc zero)))) start i h e l = (omega arith, omega arith)
inside (suc (suc (suc (suc (suc zero))))) start i h e l = (omega arith, omega arith)
inside (suc (suc (suc (suc (suc (suc left)))))) start i h e l = absurd (omega arith)

module _ (ws : List ℕ) (left : ℕ) (few : left < 6) where
  abbrev part_at : ℕ → ℕ
  part_at start = get_or ws (start / 64) 0 / 2 ^ (start % 64) % 2 ^ 2 ^ left

  part-bits : (start i : ℕ) → start % 2 ^ left ≡ 0 → i < 2 ^ left → bit_of i (part_at start) ≡ bit_in ws (start + i)
  part-bits start i e l =
      let (q, r) = inside left start i few e l in
      part-bit (get_or ws (start / 64) 0) (start % 64) (2 ^ left) i l
      ∙ ap₂ (λ (k m : ℕ). bit_of k (get_or ws m 0)) r q

  pub same-by-parts : (a b : ℕ) → Block ws left a → Block ws left b →
      eqb (part_at a) (part_at b) ≡ same (block_at ws left a) (block_at ws left b)
  same-by-parts a b ha hb =
      same_by (block_at ws left a) (block_at ws left b) (eqb (part_at a) (part_at b))
      (λ e. blocks-same ws left a b (λ i l.
      sym (part-bits a i ha.whole l) ∙ ap (bit_of i) (eqb-true (part_at a) (part_at b) e) ∙ part-bits b i hb.whole l))
      (λ e. eq-eqb (part_at a) (part_at b)
      (bits-same (2 ^ left) (part_at a) (part_at b) (mod-lt _ (pow_pos (2 ^ left))) (mod-lt _ (pow_pos (2 ^ left))) (λ i l.
      part-bits a i ha.whole l ∙ blocks-bits ws left a b e i l ∙ sym (part-bits b i hb.whole l))))

-- A longer block begins with a word.
whole_words : (k start : ℕ) → start % 2 ^ (k + 6) ≡ 0 → start % 64 ≡ 0
whole_words k start e = sym (mod-mod-pow start k 6) ∙ ap (λ (x : ℕ). x % 64) e

word-bit : (ws : List ℕ) (start i j : ℕ) → start % 64 ≡ 0 → j < 64 →
    bit_in ws (start + (64 * i + j)) ≡ bit_of j (get_or ws (start / 64 + i) 0)
word-bit ws start i j e l = ap₂ (λ (k m : ℕ). bit_of k (get_or ws m 0)) (omega arith) (omega arith)

-- The words of a block of so many.
abbrev words_at : List ℕ → ℕ → ℕ → List ℕ
words_at ws k a = between (a / 64) (a / 64 + 2 ^ k) ws

module _ (ws : List ℕ) (words : (i : ℕ) → get_or ws i 0 < 2 ^ 64) (k a b : ℕ) (ha : Block ws (k + 6) a) (hb : Block ws (k + 6) b) where
  p : 2 ^ (k + 6) ≡ 2 ^ k * 64
  p = pow-add 2 k 6

  ea : a % 64 ≡ 0
  ea = whole_words k a ha.whole

  eb : b % 64 ≡ 0
  eb = whole_words k b hb.whole

  word_at : (a i : ℕ) → i < 2 ^ k → get_or (words_at ws k a) i 0 ≡ get_or ws (a / 64 + i) 0
  word_at a i l = get_or-between ws (a / 64) (a / 64 + 2 ^ k) i 0 (omega arith)

  long : (a : ℕ) → a / 64 + 2 ^ k ≤ length ws → length (words_at ws k a) ≡ 2 ^ k
  long a h = length-between ws (a / 64) (a / 64 + 2 ^ k) h ∙ omega arith

  same-by-words : (r : Bool) → Decides r (words_at ws k a ≡ words_at ws k b) → r ≡ same (block_at ws (k + 6) a) (block_at ws (k + 6) b)
  same-by-words r d =
      same_by (block_at ws (k + 6) a) (block_at ws (k + 6) b) r
      (λ e. blocks-same ws (k + 6) a b (λ i l.
      let n : i ≡ 64 * (i / 64) + i % 64 = omega arith in
      let inside : i / 64 < 2 ^ k = omega (arith, p) in
      ap (λ (i : ℕ). bit_in ws (a + i)) n ∙ word-bit ws a (i / 64) (i % 64) ea (omega arith)
      ∙ ap (bit_of (i % 64)) (sym (word_at a (i / 64) inside) ∙ ap (λ (l : List ℕ). get_or l (i / 64) 0) (d.0 e) ∙ word_at b (i / 64) inside)
      ∙ sym (ap (λ (i : ℕ). bit_in ws (b + i)) n ∙ word-bit ws b (i / 64) (i % 64) eb (omega arith))))
      (λ e. d.1 (ext_get_or 0 _ _ (long a (omega (arith, ha.within, p)) ∙ sym (long b (omega (arith, hb.within, p)))) (λ i h.
      let l : i < 2 ^ k = omega (arith, long a (omega (arith, ha.within, p))) in
      word_at a i l
      ∙ bits-same 64 (get_or ws (a / 64 + i) 0) (get_or ws (b / 64 + i) 0) (words _) (words _) (λ j g.
      sym (word-bit ws a i j ea g) ∙ blocks-bits ws (k + 6) a b e (64 * i + j) (omega (arith, p)) ∙ word-bit ws b i j eb g)
      ∙ sym (word_at b i l))))

pub bits-few : (left : ℕ) → left < 6 → 2 ^ left < 64
bits-few left h = pow-lt h

pub part-shift : (left : ℕ) → left < 6 → 1 * 2 ^ (1 * 2 ^ left % 2 ^ 64) % 2 ^ 64 ≡ 2 ^ 2 ^ left
part-shift left h = ap (λ (k : ℕ). 1 * 2 ^ k % 2 ^ 64) (bits-of left (omega arith)) ∙ bits-of (2 ^ left) (bits-few left h)

-- The words of a longer block, so many.
module _ (ws : List ℕ) (left n : ℕ) (most : 6 ≤ left) (count : n ≡ 2 ^ (left - 6)) where
  pub words-within : (a : ℕ) → Block ws left a → a / 64 + n ≤ length ws
  words-within a h =
      let e : left - 6 + 6 ≡ left = omega arith in
      let p : 2 ^ (left - 6 + 6) ≡ 2 ^ (left - 6) * 64 = pow-add 2 (left - 6) 6 in
      let q = rw e at p in
      omega (arith, h.within)

  pub same-by-so-many : ((i : ℕ) → get_or ws i 0 < 2 ^ 64) → (a b : ℕ) → Block ws left a → Block ws left b →
      {r : Bool} → Decides r (between (a / 64) (a / 64 + n) ws ≡ between (b / 64) (b / 64 + n) ws) →
      r ≡ same (block_at ws left a) (block_at ws left b)
  same-by-so-many words a b ha hb {r} d =
      let e : left - 6 + 6 ≡ left = omega arith in
      (rw e at (same-by-words ws words (left - 6) a b)) ha hb r (rw count at d)
