-- `passes::take_sources` meets its contract. The loop's invariant: the sources before gate g's are written.
use Prim.Native.Nat.{◌+◌, ◌/◌, ◌≤◌, ◌<◌}
use native.Mathlib.Omega.{arith}
use mathlib.Core.Path.{◌≡◌, ap, ◌∙◌}
use lib.ListN.{length}
use Rattle.netlist.specs.declared.Gate.{Gate}
use Rattle.netlist.specs.Netlist.{gate_at}
use Rattle.netlist.proofs.Chunks.{gate-chunk}
use Rattle.search.proofs.Sites.{taken}
use Rattle.search.proofs.Taken.{taken-more}
use Rattle.search.proofs.passes.take_sources.Goals.{After-from-gate}
use Rattle.search.proofs.passes.take_sources.Goals as goal

pub loop-g-init : goal.loop-g-init
loop-g-init c = λ g l. absurd (omega arith)

module _ (c : After-from-gate) where
  within : c.loop-g.g < length c.args.board.gates.now / 5
  within = omega (arith, c.as_chunks.ensures.front_len)

  here : c.from-gate.result ≡ gate_at c.args.board.gates.now c.loop-g.g
  here = c.from-gate.ensures ∙ gate-chunk _ _ c.as_chunks.ensures.front within

pub bounds-taken-g : goal.bounds-taken-g
bounds-taken-g c = omega (arith, within (goal.at.bounds-taken-g c).After-from-gate, c.requires)

pub loop-g-preserved : goal.loop-g-preserved
loop-g-preserved c =
    let high : 2 ≤ c.gate_line-first.result + c.loop-g.g = omega (arith, c.gate_line-first.ensures) in
    let read = (goal.at.loop-g-preserved c).After-from-gate in
    let gate = here read in
    let left = taken c.args.hold _ 1 _ high c.held_line-left.ensures c.from-level.ensures (ap (λ (x : Gate). x.left) gate) c.show.ensures in
    let right = taken c.args.hold _ 2 _ high c.held_line-right.ensures c.from-level.ensures (ap (λ (x : Gate). x.right) gate) c.show-in-loop-g.ensures in
    taken-more _ c.args.hold c.args.board.gates.now c.loop-g.taken c.loop-g.g _ (omega (arith, within read, c.requires))
    (λ i. record { left = left i; right = right i }) c.loop-g.invariant

pub returns : goal.returns
returns c =
    let e : c.loop-g.g ≡ length c.args.board.gates.now / 5 = omega (arith, c.as_chunks.ensures.front_len) in
    rw (c.gate_line-first.ensures, e) at c.loop-g.invariant
