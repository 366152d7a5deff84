-- What services return, and bytes, as a program shows them.
use Rattle.std.specs.Prelude.{ℕ, Result, cond, List, [], ◌++◌, ◌==◌, ◌^◌, ◌-◌, leb, length, take, map, codes, decimal, false}
use Rattle.std.specs.Fmt.{digits, padded_integral, format_spec}
use Rattle.std.specs.List.{flat_map}
use Rattle.files.specs.declared.refusal.Refusal.{Refusal}
use Rattle.files.specs.Refusals.{number_in}
use Rattle.files.specs.Room.{length_in}
use Rattle.text.specs.Spelling.{sign_of}

-- The number of what a service returned, and the value under a name.
abbrev pub outcome_text : Result ℕ Refusal → List ℕ → List ℕ
outcome_text r name = codes ": " ++ (decimal (number_in r) ++ (codes ", " ++ (name ++ (codes " " ++ decimal (length_in r)))))

-- A byte behind a space, in two hexadecimal digits.
abbrev pub byte_text : ℕ → List ℕ
byte_text b = codes " " ++ padded_integral (format_spec 32 0 4 2 (2 ^ 64 - 1)) false [] (digits 16 false b)

-- The first sixteen bytes, and two points where there are more.
abbrev pub bytes_text : List ℕ → List ℕ
bytes_text bs = flat_map byte_text (take 16 bs) ++ cond (leb (length bs) 16) [] (codes " ..")

-- Bytes as a case spells them.
abbrev pub spelt_text : List ℕ → List ℕ
spelt_text bs = cond (length bs == 0) (codes "none") (map sign_of bs)

-- A lent byte: a point, where nothing was written, or the number that was.
abbrev pub sign_text : ℕ → List ℕ
sign_text b = cond (b == 46) (codes ".") (decimal b)

-- Lent bytes.
abbrev pub signs_text : List ℕ → List ℕ
signs_text bs = cond (length bs == 0) (codes "none") (flat_map sign_text bs)
