-- The halves of blocks: where each begins, and which function it is.
use Prim.Native.Nat.{ℕ, zero, suc, ◌+◌, ◌*◌, ◌/◌, ◌%◌, ◌^◌, ◌≤◌, ◌<◌}
use native.Mathlib.Decide.{ℕ_discrete}
use native.Mathlib.Nat.{add-mod_right, zero-mod}
use native.Mathlib.Numerals.{one-add}
use native.Mathlib.Omega.{arith}
use mathlib.Core.Path.{◌≡◌, sym, ap, ◌∙◌}
use mathlib.Core.Logic.{by_cases}
use mathlib.Core.List.{List}
use lib.Dec.{eqb}
use lib.ListN.{length, get_or, set, length-set}
use lib.Pow.{mod-mod-pow}
use lib.Seq.{get_or-set_same, get_or-set_other}
use Rattle.std.proofs.lemmas.List.{get_or_default}
use Rattle.functions.specs.Functions.{Function, constant, half, half_at, firsts}
use Rattle.functions.proofs.Firsts.{firsts_same}
use Rattle.canonical.specs.Inner.Blocks.{block_at, mention_at, level_at, blocks_at, next_of, Block, Blocks}
use Rattle.canonical.proofs.Searching.{length-blocks, block_of}

-- The places of a block's halves.
pub first-half : (f : ℕ → ℕ) (u w : ℕ) → f u ≡ f (2 * u / 2) + 2 * u % 2 * w
first-half f u w =
    let q : 2 * u / 2 ≡ u = omega arith in
    let r : 2 * u % 2 ≡ 0 = omega arith in
    rw (q, r) (omega arith)

pub second-half : (f : ℕ → ℕ) (u w : ℕ) → f u + w ≡ f ((2 * u + 1) / 2) + (2 * u + 1) % 2 * w
second-half f u w =
    let q : (2 * u + 1) / 2 ≡ u = omega arith in
    let r : (2 * u + 1) % 2 ≡ 1 = omega arith in
    rw (q, r) (omega arith)

-- One place more of a list that holds what f gives.
pub set_more : (f : ℕ → ℕ) (l : List ℕ) (k v : ℕ) → k < length l → v ≡ f k → ((i : ℕ) → i < k → get_or l i 0 ≡ f i) →
    (i : ℕ) → i < k + 1 → get_or (set l k v) i 0 ≡ f i
set_more f l k v h e rest i g =
    by_cases (ℕ_discrete i k) (λ q. rw q (get_or-set_same l k v 0 h ∙ e))
    (λ ne. get_or-set_other l k i v 0 ne ∙ rest i (omega arith))

-- Two places more.
pub two_more : (f : ℕ → ℕ) (l : List ℕ) (u v w : ℕ) → 2 * u + 1 < length l → v ≡ f (2 * u) → w ≡ f (2 * u + 1) →
    ((i : ℕ) → i < 2 * u → get_or l i 0 ≡ f i) → (i : ℕ) → i < 2 * (u + 1) → get_or (set (set l (2 * u) v) (2 * u + 1) w) i 0 ≡ f i
two_more f l u v w h d e rest i g =
    set_more f (set l (2 * u) v) (2 * u + 1) w (simp length-set h) e (set_more f l (2 * u) v (omega arith) d rest) i (omega arith)

-- A half by its place among the two.
half-block : (ws : List ℕ) (left s b : ℕ) → b < 2 → half (eqb b 1) (block_at ws (suc left) s) ≡ block_at ws left (s + b * 2 ^ left)
unfolding block_at
half-block ws left s zero l = ap (block_at ws left) (omega arith)
half-block ws left s (suc zero) l = ap (block_at ws left) (omega arith)
half-block ws left s (suc (suc b)) l = absurd (omega arith)

half-within : (ws : List ℕ) (left s b : ℕ) → b < 2 → Block ws (suc left) s → Block ws left (s + b * 2 ^ left)
half-within ws left s b l h =
    record { whole = go b l; within = fits b l }
  where
    whole : s % 2 ^ left ≡ 0
    whole = sym (mod-mod-pow s 1 left) ∙ ap (λ (k : ℕ). s % 2 ^ k % 2 ^ left) (one-add left) ∙ ap (λ (x : ℕ). x % 2 ^ left) h.whole
        ∙ zero-mod (2 ^ left)

    go : (b : ℕ) → b < 2 → (s + b * 2 ^ left) % 2 ^ left ≡ 0
    go zero l = ap (λ (x : ℕ). x % 2 ^ left) (omega arith) ∙ whole
    go (suc zero) l = ap (λ (x : ℕ). x % 2 ^ left) (omega arith) ∙ add-mod_right s (2 ^ left) ∙ whole
    go (suc (suc b)) l = absurd (omega arith)

    fits : (b : ℕ) → b < 2 → s + b * 2 ^ left + 2 ^ left ≤ 64 * length ws
    fits zero l = omega (arith, h.within)
    fits (suc zero) l = omega (arith, h.within)
    fits (suc (suc b)) l = absurd (omega arith)

-- Mentions that are the halves of blocks, in sequence.
module _ (ws : List ℕ) (left : ℕ) (starts mentions : List ℕ) (blocks : Blocks ws (suc left) starts)
    (long : length mentions ≡ 2 * length starts)
    (split : (k : ℕ) → k < 2 * length starts → get_or mentions k 0 ≡ get_or starts (k / 2) 0 + k % 2 * 2 ^ left) where
  abbrev level : List Function
  level = blocks_at ws (suc left) starts

  pub halves-blocks : Blocks ws left mentions
  halves-blocks k d l =
      rw (get_or_default mentions k d 0 l, split k (omega arith))
      (half-within ws left (get_or starts (k / 2) 0) (k % 2) (omega arith) (blocks (k / 2) 0 (omega arith)))

  pub half-mention : (k : ℕ) → k < length mentions → mention_at ws left mentions k ≡ half_at level k
  half-mention k l =
      let n = length-blocks ws (suc left) starts in
      ap (block_at ws left) (split k (omega arith)) ∙ sym (half-block ws left (get_or starts (k / 2) 0) (k % 2) (omega arith))
      ∙ ap (half (eqb (k % 2) 1)) (sym (block_of ws (suc left) starts (k / 2)) ∙ get_or_default level (k / 2) _ (constant 0) (omega arith))

  pub next_level : level_at ws left mentions ≡ next_of level
  next_level =
      firsts_same (mention_at ws left mentions) (half_at level) (length mentions) half-mention
      ∙ ap (firsts (half_at level)) (long ∙ ap (◌*◌ 2) (sym (length-blocks ws (suc left) starts)))
