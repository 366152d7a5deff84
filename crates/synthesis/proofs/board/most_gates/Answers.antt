-- `board::most_gates` meets its contract: the largest width covers every level, and is at most 8.
use native.Mathlib.Omega.{arith}
use Rattle.rules.proofs.Bounds.{gates-covered, square-most, cube-most, whole-most}
use Rattle.synthesis.proofs.Widest.{covers, narrow}
use Rattle.synthesis.proofs.board.most_gates.Goals as goal

pub overflow_mul-result : goal.overflow_mul-result
overflow_mul-result c = omega (arith, square-most (narrow c.args.d.now c.requires c.widest-w.ensures))

pub overflow_mul-result-2 : goal.overflow_mul-result-2
overflow_mul-result-2 c = omega (arith, narrow c.args.d.now c.requires c.widest-w.ensures)

pub overflow_sub-result-2 : goal.overflow_sub-result-2
overflow_sub-result-2 c = omega (arith, (covers c.args.d.now c.requires c.widest-w.ensures).0)

pub overflow_mul-result-3 : goal.overflow_mul-result-3
overflow_mul-result-3 c = omega (arith, cube-most (narrow c.args.d.now c.requires c.widest-w.ensures))

pub overflow_mul-result-4 : goal.overflow_mul-result-4
overflow_mul-result-4 c =
    omega (arith, whole-most c.requires.contacts.1 (narrow c.args.d.now c.requires c.widest-w.ensures))

pub returns : goal.returns
returns c = gates-covered c.args.d.now _ c.requires.contacts.0 (covers c.args.d.now c.requires c.widest-w.ensures)
