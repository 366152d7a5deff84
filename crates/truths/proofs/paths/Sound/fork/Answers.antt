-- `Sound::fork` meets its contract: a node leads to its edges.
use native.Mathlib.Omega.{arith}
use Prim.Native.Nat.{ℕ}
use mathlib.Core.Path.{ap}
use mathlib.Core.List.{List}
use lib.ListN.{get_or}
use Rattle.drawing.specs.Drawing.{parted}
use Rattle.truths.proofs.Outputs.{ready_for}
use Rattle.truths.proofs.Reaching.{node-forks}
use Rattle.truths.proofs.paths.Sound.fork.Goals as goal

pub returns : goal.returns
returns c =
    let s = c.args.self in
    rw c.node.ensures
    (node-forks s.parts.contacts s.parts.nodes.now (ready_for (parted s.parts) s.limited) c.args.v c.in_ok-half.half c.if-v-lt2.false c.requires
    (omega (arith, c.in_ok-half.ensures, ap (λ (node : List ℕ). get_or node 0 0) c.node.ensures)))
