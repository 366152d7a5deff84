-- Truth tables, 64 bits a word: a function of so many contacts is a block of 2^so many bits at a multiple of its length.
use Rattle.std.specs.Prelude.{ℕ, zero, suc, ◌+◌, ◌*◌, ◌-◌, ◌/◌, ◌%◌, ◌^◌, ◌≤◌, ◌≡◌, Bool, true, cond, List, [], ◌∷◌, ◌++◌, map, leb, eqb, length, get_or, All}
use Rattle.std.proofs.lemmas.List.Edits.{sets}
use Rattle.fields.specs.Bounded.{listed}
use Rattle.fields.specs.Fields.{field_bytes}
use Rattle.diagram.specs.Diagram.{Input, input_of}
use Rattle.bits.specs.Inner.Bits.{bit_of}
use Rattle.functions.specs.Functions.{Function, constant, choice, firsts, half_at, number_in}

-- Bit s of a row of words.
abbrev pub bit_in : List ℕ → ℕ → ℕ
bit_in ws s = bit_of (s % 64) (get_or ws (s / 64) 0)

-- The function whose truth table is the block of 2^left bits from s on: its first half is for the first contact open.
unfoldable pub block_at : List ℕ → ℕ → ℕ → Function
block_at ws zero s = constant (bit_in ws s)
block_at ws (suc left) s = choice (block_at ws left s) (block_at ws left (s + 2 ^ left))

-- The input at bit q of a truth table of n contacts: contact 0 weighs most.
abbrev pub input_at : ℕ → ℕ → Input
input_at n q i = input_of q (n - suc i)

-- A block of 2^left bits lies at a multiple of its length, within the words.
pub record Block (ws : List ℕ) (left start : ℕ) : Type 0 where
  pub whole : start % 2 ^ left ≡ 0
  pub within : start + 2 ^ left ≤ 64 * length ws

-- The places of a list are those of blocks.
abbrev pub Blocks : List ℕ → ℕ → List ℕ → Type 0
Blocks ws left starts = All (Block ws left) starts

-- The functions at the places of a list.
abbrev pub mention_at : List ℕ → ℕ → List ℕ → ℕ → Function
mention_at ws left starts k = block_at ws left (get_or starts k 0)

-- The functions of a level that some mentions give.
abbrev pub level_at : List ℕ → ℕ → List ℕ → List Function
level_at ws left mentions = firsts (mention_at ws left mentions) (length mentions)

abbrev pub blocks_at : List ℕ → ℕ → List ℕ → List Function
blocks_at ws left starts = map (block_at ws left) starts

-- Whether a level's functions can be listed: they are at most eight, or constants, which are not listed.
abbrev pub is_few : ℕ → List Function → Bool
is_few left fs = cond (eqb left 0) true (leb (length fs) 8)

-- The places of a level's functions, at most eight.
pub record Starts (ws : List ℕ) (left : ℕ) (fs : List Function) (starts : List ℕ) : Type 0 where
  pub few : length starts ≤ 8
  pub blocks : Blocks ws left starts
  pub are : blocks_at ws left starts ≡ fs

-- What numbering a level's mentions leaves: their numbers, and the places of the level's functions, if they are not constants.
pub record Numbered (ws : List ℕ) (left : ℕ) (mentions numbers starts : List ℕ) : Type 0 where
  pub numbers-are : numbers ≡ listed (λ k. number_in (level_at ws left mentions) (mention_at ws left mentions k)) (length mentions) 0
  pub starts-are : (left ≡ 0 → ⊥) → Starts ws left (level_at ws left mentions) starts

-- What writing a field of numbers leaves: these bytes from a place on, and the places of the functions that have the numbers, if they
-- are not constants.
pub record Put (ws : List ℕ) (left : ℕ) (fs : List Function) (at : ℕ) (bytes before after starts' : List ℕ) : Type 0 where
  pub written : after ≡ sets before at bytes
  pub starts : (left ≡ 0 → ⊥) → Starts ws left fs starts'

-- The level that the halves of a level's functions give, and the field of the level's edges to it.
abbrev pub next_of : List Function → List Function
next_of fs = firsts (half_at fs) (2 * length fs)

abbrev pub level_bytes : List Function → List ℕ
level_bytes fs =
    field_bytes (record { tag = 3; value = listed (λ k. number_in (next_of fs) (half_at fs k)) (2 * length fs) 0 })

-- The fields before the levels': the count of contacts, and each output's number.
abbrev pub head_bytes : ℕ → ℕ → (ℕ → Function) → List ℕ
head_bytes n m f =
    field_bytes (record { tag = 1; value = n ∷ [] })
    ++ field_bytes (record { tag = 2; value = listed (λ j. number_in (firsts f m) (f j)) m 0 })
