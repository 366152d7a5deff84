-- Writing the table of some functions: question 17, then 9.
use Rattle.std.specs.Prelude.{ℕ, Option, Some, None, cond, List, length}
use Rattle.files.specs.Room.{Writing, writing_of}
use Rattle.table.specs.Encode.{bytes_of}
use Rattle.functions.specs.Functions.{Function, canonical, is_narrow}

-- Question 17's answer: the length of the table's file, or that some level has too many functions. No: 17.
abbrev pub laid_of : ℕ → ℕ → (ℕ → Function) → Option ℕ
laid_of n m f = cond (is_narrow n m f) (Some (length (bytes_of (canonical n m f)))) None

abbrev pub laid_number : Option ℕ → ℕ
laid_number (Some bytes) = 0
laid_number None = 17

-- The table of m functions of n contacts is written to a lent buffer.
unfoldable pub tabling_of : ℕ → ℕ → (ℕ → Function) → List ℕ → Writing
tabling_of n m f buffer = writing_of (laid_number (laid_of n m f)) (bytes_of (canonical n m f)) buffer
