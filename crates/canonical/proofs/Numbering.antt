-- Mentions of a level's functions, numbered one after another: what one more adds.
use Prim.Native.Nat.{ℕ, zero, suc, ◌+◌, ◌≤◌, ◌<◌}
use native.Mathlib.Numerals.{add-one}
use native.Mathlib.Omega.{arith}
use mathlib.Core.Path.{◌≡◌, refl, sym, ap, ◌∙◌}
use mathlib.Core.Bool.{false}
use mathlib.Core.List.{List, [], ◌∷◌, ◌++◌, map-append}
use borrow.Author.Tests.{ne_eqb, lt-leb}
use lib.ListN.{length, get_or, take, set, length-append}
use lib.Seq.{take-suc-set}
use Rattle.std.proofs.lemmas.List.Elements.{All-nil, All-push}
use Rattle.fields.specs.Bounded.{listed}
use Rattle.fields.proofs.Listed.{listed_more}
use Rattle.functions.specs.Functions.{Function, firsts, number_in, place}
use Rattle.functions.proofs.Firsts.{firsts-none, firsts-old, firsts-new, length_more, place-entered}
use Rattle.canonical.specs.Inner.Blocks.{bit_in, block_at, blocks_at, mention_at, level_at, is_few, Block, Blocks}
use Rattle.canonical.proofs.Searching.{length-blocks}

-- The first places of a list have what f gives: none, and one more.
module _ (f : ℕ → ℕ) where
  pub numbered-none : [] ≡ listed f 0 0
  unfolding listed
  numbered-none = refl

  pub numbered_more : (l : List ℕ) (k v : ℕ) → k < length l → take k l ≡ listed f k 0 → v ≡ f k → take (k + 1) (set l k v) ≡ listed f (k + 1) 0
  numbered_more l k v room d e =
      rw (add-one k) (take-suc-set l k v room ∙ ap (λ (m : List ℕ). m ++ (v ∷ [])) d ∙ ap (λ (x : ℕ). listed f k 0 ++ (x ∷ [])) e)
      ∙ sym (listed_more f k)

-- A constant's number is its bit; another function's is its place.
pub number-constant : (fs : List Function) (ws : List ℕ) (s : ℕ) → bit_in ws s ≡ number_in fs (block_at ws 0 s)
unfolding block_at
number-constant fs ws s = refl

number-place : (fs : List Function) (ws : List ℕ) (left s : ℕ) → 1 ≤ left →
    place fs (block_at ws left s) ≡ number_in fs (block_at ws left s)
unfolding block_at
number-place fs ws zero s h = absurd (omega arith)
number-place fs ws (suc left) s h = refl

-- The numbers of a level's mentions.
abbrev pub number : List ℕ → ℕ → List ℕ → ℕ → ℕ
number ws left mentions k = number_in (level_at ws left mentions) (mention_at ws left mentions k)

-- Whether a level's functions are few.
pub few-not : (left : ℕ) (fs : List Function) → 1 ≤ left → 8 < length fs → false ≡ is_few left fs
few-not left fs h l = simp (ne_eqb left 0 (λ e. omega arith), lt-leb (length fs) 8 l)

-- The places of the functions that the first k mentions give, at most eight.
pub record Entered (ws : List ℕ) (left : ℕ) (mentions : List ℕ) (k : ℕ) (starts : List ℕ) : Type 0 where
  pub few : length starts ≤ 8
  pub blocks : Blocks ws left starts
  pub are : blocks_at ws left starts ≡ firsts (mention_at ws left mentions) k

module _ (ws : List ℕ) (left : ℕ) (mentions : List ℕ) where
  abbrev mention : ℕ → Function
  mention = mention_at ws left mentions

  pub none-entered : Entered ws left mentions 0 []
  none-entered =
      record { few = omega arith; blocks = All-nil (Block ws left); are = sym (firsts-none mention) }

  -- The next mention, found at a place among the functions before it, or past them.
  module _ {k : ℕ} {starts : List ℕ} (e : Entered ws left mentions k starts) where
    pub entered-width : length starts ≡ length (firsts mention k)
    entered-width = sym (length-blocks ws left starts) ∙ ap length e.are

    module _ (found : ℕ) (at : found ≡ place (blocks_at ws left starts) (mention k)) where
      found-there : found ≡ place (firsts mention k) (mention k)
      found-there = at ∙ ap (λ (fs : List Function). place fs (mention k)) e.are

      pub found_number : 1 ≤ left → k < length mentions → found ≡ number ws left mentions k
      found_number h l =
          found-there ∙ sym (place-entered mention k (length mentions) l)
          ∙ number-place (level_at ws left mentions) ws left (get_or mentions k 0) h

      pub entered-old : found < length starts → Entered ws left mentions (k + 1) starts
      entered-old h =
          let old = firsts-old mention k (omega (arith, found-there, entered-width)) in
          record { few = e.few; blocks = e.blocks; are = e.are ∙ rw (add-one k) (sym old) }

      grown : found ≡ length starts → firsts mention (suc k) ≡ firsts mention k ++ (mention k ∷ [])
      grown q = firsts-new mention k (omega (arith, found-there, entered-width))

      pub entered-new : found ≡ length starts → length starts < 8 → Block ws left (get_or mentions k 0) →
          Entered ws left mentions (k + 1) (starts ++ get_or mentions k 0 ∷ [])
      entered-new q room block =
          let s = get_or mentions k 0 in
          record {
            few = simp length-append (omega arith);
            blocks = All-push (Block ws left) starts s e.blocks block;
            are = rw (add-one k)
                (map-append (block_at ws left) starts (s ∷ []) ∙ ap (λ (fs : List Function). fs ++ (mention k ∷ [])) e.are ∙ sym (grown q));
          }

      pub entered-nine : found ≡ length starts → 8 ≤ length starts → k < length mentions → 8 < length (level_at ws left mentions)
      entered-nine q n l =
          let more = length_more mention (suc k) (length mentions) l in
          let len = ap length (grown q) ∙ length-append (firsts mention k) (mention k ∷ []) in
          omega (arith, entered-width)
