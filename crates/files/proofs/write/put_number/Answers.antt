-- `write::put_number` meets its contract: the high byte of 16 bits is their quotient.
use native.Mathlib.Omega.{arith}
use Prim.Native.Nat.{ℕ, ◌/◌, ◌%◌}
use mathlib.Core.Path.{◌≡◌, ap, ◌∙◌}
use mathlib.Core.List.{[], ◌∷◌}
use lib.Seq.{sets}
use Rattle.files.proofs.write.put_number.Goals as goal

pub returns : goal.returns
returns c =
    let a = c.args in
    let h : a.x / 256 % 256 ≡ a.x / 256 = omega (arith, c.ranges.x) in
    c.copy.ensures ∙ ap (sets a.out.now a.at) (c.to_be_bytes.ensures ∙ ap (λ (k : ℕ). k ∷ a.x % 256 ∷ []) h)
