-- `levels::halve` meets its contract.
use native.Mathlib.Omega.{arith}
use Prim.Native.Nat.{ℕ, ◌+◌, ◌*◌, ◌/◌, ◌%◌, ◌^◌}
use lib.ListN.{get_or, length-set}
use Rattle.bits.proofs.Bits.{bits-of}
use Rattle.canonical.proofs.Halves.{two_more, first-half, second-half}
use Rattle.canonical.proofs.levels.halve.Goals as goal

pub loop-u-preserved : goal.loop-u-preserved
loop-u-preserved c =
    let loop = c.loop-u in
    let left = c.args.left in
    let starts = c.args.starts.now in
    let start : ℕ → ℕ = λ i. get_or starts i 0 in
    let size = bits-of left (omega arith) in (
      simp length-set loop.invariant.0,
      two_more (λ i. start (i / 2) + i % 2 * 2 ^ left) loop.halves loop.u _ _ (omega (arith, loop.invariant.0, c.requires.0))
          (first-half start loop.u (2 ^ left)) (rw size (second-half start loop.u (2 ^ left))) loop.invariant.1,
    )
