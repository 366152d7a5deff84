-- How refusals are numbered: the number of question 1, the first no of several questions, and the test of two bounds that they share.
use Rattle.std.specs.Prelude.{ℕ, zero, suc, Bool, ◌&&◌, List, [], ◌∷◌, leb}
use Rattle.fields.specs.declared.Framing.{Framing}
use Rattle.fields.specs.declared.Framing.TheVariants.{Whole, Broken}

abbrev pub between : ℕ → ℕ → ℕ → Bool
between low n high = leb low n && leb n high

-- 1. Do the bytes split into whole fields with nothing left over? No: 1.
abbrev pub framing_number : Framing → ℕ
framing_number Whole = 0
framing_number Broken = 1

-- The first no gives its number: the first of these that is not 0, or 0.
unfoldable pub first_no : List ℕ → ℕ
first_no [] = 0
first_no (zero ∷ ks) = first_no ks
first_no (suc k ∷ ks) = suc k
