-- `word::lowest_bit` meets its contract, by the laws of the zeros below the lowest set bit.
use native.Mathlib.Omega.{arith}
use Rattle.bits.proofs.Trailing.{trailing-set, trailing_below}
use Rattle.bits.proofs.word.lowest_bit.Goals as goal

pub returns : goal.returns
returns c =
    let set = trailing-set 64 c.args.batch c.requires (omega arith) in
    (set.0, set.1, trailing_below 64 c.args.batch)
