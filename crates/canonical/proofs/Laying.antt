-- The table's file, level by level: what one more level adds, and what is known where a level is too wide and at the end.
use Prim.Native.Nat.{ℕ, zero, suc, ◌+◌, ◌-◌, ◌*◌, ◌≤◌, ◌<◌}
use native.Mathlib.Nat.{add-zero, sub-zero}
use native.Mathlib.Numerals.{add-one}
use native.Mathlib.Omega.{arith}
use mathlib.Core.Path.{◌≡◌, refl, sym, ap, ◌∙◌}
use mathlib.Core.Bool.{Bool, true, false, cond}
use mathlib.Core.List.{List, [], ◌∷◌, ◌++◌, append_assoc, append-nil}
use borrow.Author.Tests.{ne_eqb, leb-false, le-leb, lt-leb}
use lib.Dec.{leb}
use lib.ListN.{length, length-append}
use lib.Seq.{sets}
use Rattle.std.proofs.Common.{Some, None}
use Rattle.fields.specs.Bounded.{all, listed}
use Rattle.fields.specs.Fields.{Item, field_bytes, encoded}
use Rattle.fields.proofs.Bounded.{all_none, all_more, all-not}
use Rattle.fields.proofs.Listed.{length-listed, listed_more}
use Rattle.files.proofs.WrittenLemmas.{onward}
use Rattle.table.specs.Encode.{level_item, bytes_of}
use Rattle.functions.specs.Functions.{Function, level_of, firsts, number_in, canonical, is_narrow}
use Rattle.canonical.specs.Service.{laid_of}
use Rattle.canonical.specs.Inner.Blocks.{blocks_at, is_few, next_of, level_bytes, head_bytes, Starts, Put}
use Rattle.canonical.proofs.Searching.{length-blocks}

-- One field more.
encoded-more : (is : List Item) (i : Item) → encoded (is ++ (i ∷ [])) ≡ encoded is ++ field_bytes i
unfolding encoded
encoded-more [] i = append-nil (field_bytes i)
encoded-more (j ∷ is) i = ap (◌++◌ (field_bytes j)) (encoded-more is i) ∙ sym (append_assoc (field_bytes j) (encoded is) (field_bytes i))

-- What it says whether a level's functions are few.
module _ (left : ℕ) (fs : List Function) (some : left ≡ 0 → ⊥) where
  counts : is_few left fs ≡ leb (length fs) 8
  counts = ap (λ (b : Bool). cond b true (leb (length fs) 8)) (ne_eqb left 0 some)

  too-many : false ≡ is_few left fs → 8 < length fs
  too-many e = leb-false (length fs) 8 (sym counts ∙ sym e)

abbrev narrow : (ℕ → Function) → ℕ → ℕ → Bool
narrow f m l = leb (length (level_of f m l)) 8

-- The fields of the first l levels.
abbrev fields_to : (ℕ → Function) → ℕ → ℕ → ℕ → List ℕ
fields_to f n m l = encoded (listed (level_item (canonical n m f)) l 0)

-- The fields of the first l levels are written, and the functions of the next are listed.
pub record Laying (ws : List ℕ) (f : ℕ → Function) (n m : ℕ) (base : List ℕ) (from l at : ℕ) (file starts' : List ℕ) : Type 0 where
  pub passed : all l (narrow f m) ≡ true
  pub placed : at ≡ from + length (fields_to f n m l)
  pub room : at ≤ from + 19 * l
  pub written : file ≡ sets base from (fields_to f n m l)
  pub starts : (n - l ≡ 0 → ⊥) → Starts ws (n - l) (level_of f m l) starts'

module _ (f : ℕ → Function) (n m : ℕ) where
  fields-more : (l : ℕ) → fields_to f n m (l + 1) ≡ fields_to f n m l ++ field_bytes (level_item (canonical n m f) l)
  fields-more l =
      let item = level_item (canonical n m f) in
      ap encoded (listed_more item l) ∙ encoded-more (listed item l 0) (item l)

  length-field : (l : ℕ) → length (field_bytes (level_item (canonical n m f) l)) ≡ 3 + 2 * length (level_of f m l)
  length-field l = omega (arith, length-listed ((canonical n m f).edge l) (2 * length (level_of f m l)) 0)

  next-is : (l : ℕ) → next_of (level_of f m l) ≡ level_of f m (l + 1)
  unfolding level_of
  next-is l = rw (add-one l) refl

  bytes-are : (l : ℕ) → level_bytes (level_of f m l) ≡ field_bytes (level_item (canonical n m f) l)
  unfolding level_of
  bytes-are l = refl

  pub none-laid : (ws base : List ℕ) (from : ℕ) {starts : List ℕ} → ((n ≡ 0 → ⊥) → Starts ws n (level_of f m 0) starts) →
      Laying ws f n m base from 0 from base starts
  unfolding listed encoded
  none-laid ws base from s =
      record {
        passed = all_none (narrow f m);
        placed = sym (add-zero from);
        room = omega arith;
        written = refl;
        starts = λ some. rw (sub-zero n) (s (λ z. some (omega arith)));
      }

  -- A level that is too wide.
  too_wide : (l : ℕ) → l < n → 8 < length (level_of f m l) → false ≡ is_narrow n m f
  unfolding is_narrow
  too_wide l h w = sym (all-not (narrow f m) n l h (lt-leb (length (level_of f m l)) 8 w))

  pub first-wide : 1 ≤ n → false ≡ is_few n (level_of f m 0) → false ≡ is_narrow n m f
  first-wide h e = too_wide 0 h (too-many n (level_of f m 0) (λ z. omega arith) e)

  -- One level more.
  module _ {ws base file starts : List ℕ} {from l at : ℕ} (e : Laying ws f n m base from l at file starts) (inside : l < n) where
    some : n - l ≡ 0 → ⊥
    some z = omega arith

    step : n - l ≡ suc (n - 1 - l)
    step = omega arith

    abbrev fs : List Function
    fs = blocks_at ws (suc (n - 1 - l)) starts

    level-is : fs ≡ level_of f m l
    level-is = rw (← step) (e.starts some).are

    width-is : length starts ≡ length (level_of f m l)
    width-is = sym (length-blocks ws (suc (n - 1 - l)) starts) ∙ ap length level-is

    next_are : next_of fs ≡ level_of f m (l + 1)
    next_are = ap next_of level-is ∙ next-is l

    pub next-wide : false ≡ is_few (n - 1 - l) (next_of fs) → false ≡ is_narrow n m f
    next-wide = go (n - 1 - l) refl
      where
        go : (k : ℕ) → k ≡ n - 1 - l → false ≡ is_few k (next_of fs) → false ≡ is_narrow n m f
        go zero q w = cc
        go (suc k) q w = too_wide (l + 1) (omega arith) (omega (arith, too-many (suc k) (next_of fs) (λ z. omega arith) w, ap length next_are))

    -- What was written, by the levels of the outputs' functions.
    put_next : {after starts' : List ℕ} → Put ws (n - 1 - l) (next_of fs) at (level_bytes fs) file after starts' →
        Put ws (n - (l + 1)) (level_of f m (l + 1)) at (field_bytes (level_item (canonical n m f) l)) file after starts'
    put_next p =
        let d : n - (l + 1) ≡ n - 1 - l = omega arith in
        rw (d, ← next-is l, ← bytes-are l, ← level-is) p

    pub laid_more : {after starts' : List ℕ} → Put ws (n - 1 - l) (next_of fs) at (level_bytes fs) file after starts' →
        Laying ws f n m base from (l + 1) (at + (3 + 2 * length starts)) after starts'
    laid_more p =
        let more = fields-more l in
        let size = ap length more ∙ length-append (fields_to f n m l) (field_bytes (level_item (canonical n m f) l)) in
        let field = length-field l in
        let few = (e.starts some).few in
        record {
          passed = all_more (narrow f m) l e.passed (le-leb (length (level_of f m l)) 8 (omega (arith, width-is)));
          placed = omega (arith, e.placed, width-is);
          room = omega (arith, e.room);
          written = onward base from (fields_to f n m l) (field_bytes (level_item (canonical n m f) l)) e.written (put_next p).written e.placed
              ∙ ap (sets base from) (sym more);
          starts = (put_next p).starts;
        }

  pub laid-narrow : {ws base file starts : List ℕ} {from l at : ℕ} → Laying ws f n m base from l at file starts → l ≡ n → is_narrow n m f ≡ true
  unfolding is_narrow
  laid-narrow e q = rw q at e.passed

  -- Question 17's answers.
  pub answer-wide : false ≡ is_narrow n m f → None ≡ laid_of n m f
  answer-wide e = ap (λ (b : Bool). cond b (Some (length (bytes_of (canonical n m f)))) None) e

  pub answer-whole : {k : ℕ} → is_narrow n m f ≡ true → k ≡ length (bytes_of (canonical n m f)) → Some k ≡ laid_of n m f
  answer-whole e l = ap Some l ∙ sym (ap (λ (b : Bool). cond b (Some (length (bytes_of (canonical n m f)))) None) e)

  -- The whole file: the fields before the levels', and the levels'.
  bytes_whole : head_bytes n m f ++ fields_to f n m n ≡ bytes_of (canonical n m f)
  unfolding bytes_of encoded level_of
  bytes_whole =
      append_assoc (field_bytes (record { tag = 1; value = n ∷ [] }))
      (field_bytes (record { tag = 2; value = listed (canonical n m f).root m 0 })) (fields_to f n m n)

  length-head : length (head_bytes n m f) ≡ 7 + m
  length-head = omega (arith, length-listed (λ j. number_in (firsts f m) (f j)) m 0)

  module _ {ws base file starts : List ℕ} {at : ℕ} (e : Laying ws f n m base (7 + m) n at file starts) where
    pub laid-length : at ≡ length (bytes_of (canonical n m f))
    laid-length =
        let size = sym (ap length bytes_whole) ∙ length-append (head_bytes n m f) (fields_to f n m n) in
        omega (arith, e.placed, length-head)

    pub laid-whole : (entry : List ℕ) → base ≡ sets entry 0 (head_bytes n m f) →
        file ≡ sets entry 0 (bytes_of (canonical n m f))
    laid-whole entry h =
        onward entry 0 (head_bytes n m f) (fields_to f n m n) h e.written (omega (arith, length-head))
        ∙ ap (sets entry 0) bytes_whole
