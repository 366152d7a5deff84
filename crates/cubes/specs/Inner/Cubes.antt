-- The inputs that fit a rule, 64 to a word: within a word the last six contacts vary, and those before them are fixed.
use Rattle.std.specs.Prelude.{ℕ, zero, suc, ◌+◌, ◌*◌, ◌-◌, ◌/◌, ◌^◌, ◌<◌, ◌≡◌, Bool, ◌&&◌, List, eqb, get_or}
use Rattle.std.specs.Int.Bits.{bit_and}
use Rattle.fields.specs.Bounded.{all}
use Rattle.diagram.specs.Diagram.{bit, input_of}
use Rattle.bits.specs.Inner.Bits.{bit_of}
use Rattle.canonical.specs.Inner.Blocks.{input_at}
use Rattle.rulesheet.specs.Rules.{accepts, fits}
use Rattle.cubes.specs.declared.Cube.{Cube}

-- A word that is 1 where the last contacts fit a rule: those from `fixed` on, so many.
pub record Low (n fixed count : ℕ) (rule : List ℕ) (pattern : ℕ) : Type 0 where
  pub bits : (k : ℕ) → k < 64 →
      bit_of k pattern ≡ bit (all count (λ i. accepts (get_or rule (fixed + i) 0) (input_of k (n - suc (fixed + i)))))

-- The digits of the mask and of the value that a rule's byte gives.
abbrev pub mask_digit : ℕ → ℕ
mask_digit zero = 1
mask_digit (suc zero) = 1
mask_digit (suc (suc c)) = 0

abbrev pub value_digit : ℕ → ℕ
value_digit zero = 0
value_digit (suc zero) = 1
value_digit (suc (suc c)) = 0

-- A mask and a value that the number of a word has there, if the first contacts fit a rule, so many of the fixed ones.
pub record High (fixed count : ℕ) (rule : List ℕ) (mask value : ℕ) : Type 0 where
  pub small : (mask < 2 ^ count) × (value < 2 ^ count)
  pub fit : (w : ℕ) →
      eqb (bit_and (w / 2 ^ (fixed - count)) mask) value ≡ all count (λ i. accepts (get_or rule i 0) (input_of w (fixed - suc i)))

-- Whether a cube has word w, and the input at bit k of it.
abbrev pub has_word : Cube → ℕ → Bool
has_word c w = eqb (bit_and w c.words.mask) c.words.value

abbrev pub is_in : Cube → ℕ → ℕ → Bool
is_in c w k = has_word c w && eqb (bit_of k c.pattern) 1

-- The cube of a rule: the inputs that fit it.
pub record CubeOf (n : ℕ) (rule : List ℕ) (c : Cube) : Type 0 where
  pub fit : (w k : ℕ) → k < 64 → is_in c w k ≡ fits n rule (input_at n (64 * w + k))
