-- `Diagram::forks` meets its contract: the limits keep a level's edges within the array, and they stand from 16 l on.
use native.Mathlib.Omega.{arith}
use Prim.Native.Nat.{ℕ, ◌*◌}
use mathlib.Core.Path.{ap, ◌∙◌}
use Rattle.fields.specs.Bounded.{any}
use Rattle.diagram.specs.Diagram.{edge_at}
use Rattle.diagram.specs.Inner.Bytes.{is_fork_at}
use Rattle.diagram.proofs.Asked.{width_is}
use Rattle.diagram.proofs.Diagram.forks.Goals as goal

pub forks-requires : goal.forks-requires
forks-requires c = omega (arith, width_is c.args.self.now c.args.level c.requires.0)

pub returns : goal.returns
unfolding edge_at
returns c =
    let a = c.args in
    c.forks.ensures
    ∙ ap (λ (n : ℕ). any n (is_fork_at a.self.now.edges (a.level * 16))) (width_is a.self.now a.level c.requires.0)
