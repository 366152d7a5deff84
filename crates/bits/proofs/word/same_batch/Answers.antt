-- `word::same_batch` meets its contract, by the bits of 0 and of all ones.
use native.Mathlib.Omega.{arith}
use mathlib.Core.Path.{◌≡◌, sym, ◌∙◌}
use Rattle.bits.proofs.Bits.{bit-zero, bit-ones}
use Rattle.bits.proofs.word.same_batch.Goals as goal

pub returns-then-value-eq0 : goal.returns-then-value-eq0
returns-then-value-eq0 c = λ k l. bit-zero k ∙ sym c.if-value-eq0.true

pub returns-else-value-eq0 : goal.returns-else-value-eq0
returns-else-value-eq0 c =
    let one : 1 ≡ c.args.value = omega (arith, c.if-value-eq0.false) in
    λ k l. bit-ones k l ∙ one
