-- Truth tables one after the other, 64 values a word: 2^(n-6) words each, one where n is below six. Within a word the last six contacts
-- vary, and those before them are fixed.
use Rattle.std.specs.Prelude.{ℕ, ◌+◌, ◌*◌, ◌-◌, ◌^◌, ◌<◌, ◌≡◌, List, get_or}
use Rattle.diagram.specs.Diagram.{Input}
use Rattle.bits.specs.Inner.Bits.{bit_of}
use Rattle.functions.specs.Functions.{Function}
use Rattle.canonical.specs.Inner.Blocks.{block_at, input_at}

-- The function whose truth table is row j.
abbrev pub row_at : List ℕ → ℕ → ℕ → Function
row_at ws n j = block_at ws n (64 * (j * 2 ^ (n - 6)))

-- The values v of n contacts in word w of their truth table.
pub record Word (n : ℕ) (v : Input → ℕ) (w word : ℕ) : Type 0 where
  pub bits : (k : ℕ) → k < 64 → bit_of k word ≡ v (input_at n (64 * w + k))

-- The first m rows are the truth tables of the values v.
pub record Tabulated (n m : ℕ) (v : ℕ → Input → ℕ) (truths : List ℕ) : Type 0 where
  pub held : (j w : ℕ) → j < m → w < 2 ^ (n - 6) → Word n (v j) w (get_or truths (j * 2 ^ (n - 6) + w) 0)
