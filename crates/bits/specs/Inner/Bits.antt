-- The bits of words.
use Rattle.std.specs.Prelude.{ℕ, ◌/◌, ◌%◌, ◌^◌, List, map}

-- Bit k of a word, and of each of some words.
abbrev pub bit_of : ℕ → ℕ → ℕ
bit_of k w = w / 2 ^ k % 2

abbrev pub bits_of : ℕ → List ℕ → List ℕ
bits_of k ws = map (bit_of k) ws
