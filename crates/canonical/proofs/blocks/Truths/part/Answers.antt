-- `blocks::part` meets its contract: neither shift loses a bit.
use Prim.Native.Nat.{ℕ, ◌/◌, ◌%◌, ◌^◌}
use native.Mathlib.Omega.{arith}
use mathlib.Core.Path.{ap}
use lib.ListN.{get_or}
use lib.Pow.{pow_pos}
use Rattle.bits.proofs.Bits.{bits-of}
use Rattle.canonical.proofs.Agreement.{bits-few, part-shift}
use Rattle.canonical.proofs.blocks.Truths.part.Goals as goal

pub overflow_shl-result : goal.overflow_shl-result
overflow_shl-result c =
    let left = c.args.self.left in
    omega (arith, bits-of left (omega arith), bits-few left c.requires.0)

pub nonzero_rem-result-2 : goal.nonzero_rem-result-2
nonzero_rem-result-2 c =
    let left = c.args.self.left in
    omega (arith, part-shift left c.requires.0, pow_pos (2 ^ left))

pub returns : goal.returns
returns c =
    let a = c.args in
    ap (λ (k : ℕ). get_or a.self.words.now (a.start / 64) 0 / 2 ^ (a.start % 64) % k) (part-shift a.self.left c.requires.0)
