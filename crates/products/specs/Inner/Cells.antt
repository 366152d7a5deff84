-- Matrices of eight rows of eight entries, of which the first rows and columns count.
use Rattle.std.specs.Prelude.{ℕ, ◌<◌, ◌≡◌, List, get_or}
use Rattle.rules.specs.declared.Entry.{Entry}
use Rattle.rules.specs.declared.Entry.TheVariants.{Never}
use Rattle.rules.specs.Blocks.{Matrix, entry_at}

-- The first rows and columns of a matrix are these entries.
pub record Stored (cells : Matrix) (entry : ℕ → ℕ → Entry) (rows columns : ℕ) : Type 0 where
  pub at : (u v : ℕ) → u < rows → v < columns → entry_at cells u v ≡ entry u v

-- The first entries of a row are these.
pub record RowStored (row : List Entry) (entry : ℕ → Entry) (columns : ℕ) : Type 0 where
  pub at : (v : ℕ) → v < columns → get_or row v Never ≡ entry v
