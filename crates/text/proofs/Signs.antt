-- Signs are of one byte each.
use Rattle.std.proofs.Common.{ℕ, ◌<◌, ◌≡◌, [], ◌∷◌, arith}
use Rattle.std.proofs.Math.Utf8.{encode}
use Rattle.std.proofs.lemmas.Str.{encode_ascii}
use Rattle.text.specs.Spelling.{sign_of}

pub below : (b : ℕ) → sign_of b < 128
below b = grind arith

pub one : (b : ℕ) → encode (sign_of b) ≡ sign_of b ∷ []
one b = encode_ascii (sign_of b) (below b)
