-- A search through blocks for one that is the same: where it ends is the block's place.
use Prim.Native.Nat.{ℕ, ◌<◌}
use native.Mathlib.Numerals.{one-add}
use native.Mathlib.Omega.{arith}
use mathlib.Core.Path.{◌≡◌, refl, sym, ap, ◌∙◌}
use mathlib.Core.Bool.{Bool, true, false, cond}
use mathlib.Core.List.{List}
use borrow.Author.Tests.{ltb-true, ltb-false}
use lib.Dec.{ltb}
use lib.ListN.{length, get_or, length-map, get_or-map}
use Rattle.std.proofs.Common.{Some, None}
use Rattle.std.proofs.lemmas.List.Recursion.{is_position_or_len}
use Rattle.std.specs.List.{position, position_or_len}
use Rattle.functions.specs.Functions.{Function, same, place}
use Rattle.functions.proofs.Places.{place-most}
use Rattle.canonical.specs.Inner.Blocks.{block_at, blocks_at}

module _ (ws : List ℕ) (left : ℕ) where
  pub length-blocks : (starts : List ℕ) → length (blocks_at ws left starts) ≡ length starts
  length-blocks starts = length-map starts (block_at ws left)

  pub block_of : (starts : List ℕ) (i : ℕ) → get_or (blocks_at ws left starts) i (block_at ws left 0) ≡ block_at ws left (get_or starts i 0)
  block_of starts i = get_or-map (block_at ws left) starts i 0

  module _ (f : Function) where
    abbrev is : ℕ → Bool
    is s = same (block_at ws left s) f

    place-is : (starts : List ℕ) → place (blocks_at ws left starts) f ≡ position_or_len is starts
    unfolding place
    place-is starts = is_position_or_len (λ (l : List ℕ). place (blocks_at ws left l) f) is refl
        (λ x xs. ap (cond (is x) 0) (sym (one-add (place (blocks_at ws left xs) f)))) starts

    module _ (starts : List ℕ) where
      pub found-at : (u : ℕ) → position is starts ≡ Some u → (u < length starts) × (u ≡ place (blocks_at ws left starts) f)
      found-at u = go (ltb (position_or_len is starts) (length starts)) refl
        where
          go : (b : Bool) → ltb (position_or_len is starts) (length starts) ≡ b → cond b (Some (position_or_len is starts)) None ≡ Some u →
              (u < length starts) × (u ≡ place (blocks_at ws left starts) f)
          go true w e =
              let q : position_or_len is starts ≡ u = cc in
              (omega (arith, ltb-true (position_or_len is starts) (length starts) w), sym q ∙ sym (place-is starts))
          go false w e = cc

      pub found_none : position is starts ≡ None → length starts ≡ place (blocks_at ws left starts) f
      found_none = go (ltb (position_or_len is starts) (length starts)) refl
        where
          go : (b : Bool) → ltb (position_or_len is starts) (length starts) ≡ b → cond b (Some (position_or_len is starts)) None ≡ None →
              length starts ≡ place (blocks_at ws left starts) f
          go true w e = cc
          go false w e =
              let most = place-most (blocks_at ws left starts) f in
              omega (arith, most, length-blocks starts, place-is starts, ltb-false (position_or_len is starts) (length starts) w)
