-- `narrow` meets its contract: bit by bit.
use native.Mathlib.Omega.{arith}
use Rattle.cubes.proofs.Cubes.{narrowed-open, narrowed-closed}
use Rattle.cubes.proofs.narrow.Goals as goal

pub returns-in-0 : goal.returns-in-0
returns-in-0 c = λ k a b h ea eb. narrowed-open k _ _ c.args.byte a b h ea eb (omega arith) c.in-0.is

pub returns-in-1 : goal.returns-in-1
returns-in-1 c = λ k a b h ea eb. narrowed-closed k _ _ c.args.byte a b h ea eb c.in-1.is
