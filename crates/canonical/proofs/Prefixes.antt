-- The bytes of a table's file, field by field.
use Prim.Native.Nat.{ℕ, suc, ◌+◌, ◌*◌, ◌/◌, ◌%◌, ◌^◌, ◌<◌}
use native.Mathlib.Omega.{arith}
use mathlib.Core.Path.{◌≡◌, refl, sym, ap, ap₂, ◌∙◌}
use mathlib.Core.List.{List, [], ◌∷◌, ◌++◌}
use lib.ListN.{length, get_or}
use lib.Seq.{sets}
use Rattle.fields.specs.Bounded.{listed}
use Rattle.fields.specs.Fields.{field_bytes}
use Rattle.fields.proofs.Listed.{listed_same}
use Rattle.files.proofs.WrittenLemmas.{onward}
use Rattle.functions.specs.Functions.{Function, half_at, number_in, level_of}
use Rattle.canonical.specs.Inner.Blocks.{mention_at, level_at, blocks_at, next_of, level_bytes, head_bytes, Blocks, Put, Numbered}
use Rattle.canonical.proofs.Searching.{length-blocks}
use Rattle.canonical.proofs.Numbering.{number}
use Rattle.canonical.proofs.Halves.{half-mention, next_level}

-- The numbers of mentions that other functions stand for, given the level that these give.
numbers-same : (f g : ℕ → Function) (fs gs : List Function) (count : ℕ) → fs ≡ gs → ((k : ℕ) → k < count → f k ≡ g k) →
    listed (λ k. number_in fs (f k)) count 0 ≡ listed (λ k. number_in gs (g k)) count 0
numbers-same f g fs gs count e h =
    listed_same (λ k. number_in fs (f k)) (λ k. number_in gs (g k)) count 0 (λ k l. ap₂ number_in e (h k (omega arith)))

-- A level's field.
module _ (ws : List ℕ) (left : ℕ) (starts mentions : List ℕ) (blocks : Blocks ws (suc left) starts)
    (long : length mentions ≡ 2 * length starts)
    (split : (k : ℕ) → k < 2 * length starts → get_or mentions k 0 ≡ get_or starts (k / 2) 0 + k % 2 * 2 ^ left) where
  abbrev level : List Function
  level = blocks_at ws (suc left) starts

  level-numbers : listed (number ws left mentions) (length mentions) 0
      ≡ listed (λ k. number_in (next_of level) (half_at level k)) (2 * length level) 0
  level-numbers =
      numbers-same (mention_at ws left mentions) (half_at level) (level_at ws left mentions) (next_of level) (length mentions)
      (next_level ws left starts mentions blocks long split) (half-mention ws left starts mentions blocks long split)
      ∙ ap (λ (n : ℕ). listed (λ k. number_in (next_of level) (half_at level k)) n 0) (long ∙ ap (◌*◌ 2) (sym (length-blocks ws (suc left) starts)))

  pub level-put : (at : ℕ) {before after numbers starts' : List ℕ} → Numbered ws left mentions numbers starts' →
      after ≡ sets before at (field_bytes (record { tag = 3; value = numbers })) →
      Put ws left (next_of level) at (level_bytes level) before after starts'
  level-put at {before} n e =
      record {
        written = e ∙ ap (λ (v : List ℕ). sets before at (field_bytes (record { tag = 3; value = v }))) (n.numbers-are ∙ level-numbers);
        starts = λ some. rw (next_level ws left starts mentions blocks long split) at (n.starts-are some);
      }

-- The fields before the levels'.
module _ (ws : List ℕ) (n : ℕ) (outputs : List ℕ) where
  abbrev output : ℕ → Function
  output = mention_at ws n outputs

  pub head-level : level_at ws n outputs ≡ level_of output (length outputs) 0
  unfolding level_of
  head-level = refl

  pub head-put : {before a b numbers starts : List ℕ} → a ≡ sets before 0 (field_bytes (record { tag = 1; value = n ∷ [] })) →
      b ≡ sets a 4 (field_bytes (record { tag = 2; value = numbers })) → Numbered ws n outputs numbers starts →
      Put ws n (level_of output (length outputs) 0) 0 (head_bytes n (length outputs) output) before b starts
  unfolding level_of
  head-put {before} {numbers = numbers} d e k =
      record {
        written = onward before 0 (field_bytes (record { tag = 1; value = n ∷ [] })) (field_bytes (record { tag = 2; value = numbers })) d e refl
            ∙ ap (λ (v : List ℕ). sets before 0 (field_bytes (record { tag = 1; value = n ∷ [] }) ++ field_bytes (record { tag = 2; value = v }))) k.numbers-are;
        starts = k.starts-are;
      }
