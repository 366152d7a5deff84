-- How long a lamp's field is.
use Rattle.std.specs.Prelude.{ℕ, zero, suc, ◌+◌}

-- The length of the field of a lamp's bytes, so many; none without a lamp.
abbrev pub lamp_length : ℕ → ℕ
lamp_length zero = 0
lamp_length (suc k) = 3 + suc k
