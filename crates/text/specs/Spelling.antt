-- How a case spells bytes.
use Rattle.std.specs.Prelude.{ℕ, cond, ◌+◌, ◌-◌, ◌==◌, leb}

-- The sign that stands for a byte, a question mark where none does: digits to 9, small letters to 35, capitals and the six signs
-- behind Z to 67, an at for 255, and the three signs behind z for 127 to 129.
abbrev pub sign_of : ℕ → ℕ
sign_of b =
    cond (leb b 9) (48 + b)
    (cond (leb b 35) (97 + (b - 10))
    (cond (leb b 67) (65 + (b - 36))
    (cond (b == 255) 64 (cond (leb b 126) 63 (cond (leb b 129) (123 + (b - 127)) 63)))))
