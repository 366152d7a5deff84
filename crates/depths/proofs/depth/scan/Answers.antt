-- `depth::scan` meets its contract. The loop's invariant: the depths of the gates passed are known, and the largest.
use native.Mathlib.Omega.{arith}
use Prim.Native.Nat.{ℕ, ◌+◌, ◌/◌, ◌<◌, max}
use mathlib.Core.Path.{◌≡◌, ◌∙◌}
use lib.ListN.{length, get_or, take}
use Rattle.netlist.specs.Netlist.{gate_at}
use Rattle.netlist.proofs.Chunks.{gate-chunk}
use Rattle.depths.proofs.Scans.{deeper, scan-none, scan-low, gate-depth, scan-more}
use Rattle.depths.proofs.depth.scan.Goals.{After-from-gate}
use Rattle.depths.proofs.depth.scan.Goals as goal

module _ (c : After-from-gate) where
  within : c.loop-g.g < length c.args.gates.now / 5
  within = omega (arith, c.as_chunks.ensures.front_len)

  here : c.from-gate.result ≡ gate_at c.args.gates.now c.loop-g.g
  here = c.from-gate.ensures ∙ gate-chunk _ _ c.as_chunks.ensures.front within

  below : (c.from-gate.result.left < c.args.first + c.loop-g.g) × (c.from-gate.result.right < c.args.first + c.loop-g.g)
  below = rw here (c.requires.sources_below.at c.loop-g.g within)

  depth : {m : ℕ} → m ≡ max (get_or c.loop-g.depths c.from-gate.result.left 0) (get_or c.loop-g.depths c.from-gate.result.right 0) →
      m + 1 ≡ deeper (take (c.args.first + c.loop-g.g) c.loop-g.depths) (gate_at c.args.gates.now c.loop-g.g)
  depth e = gate-depth c.args.gates.now c.loop-g.g c.requires.sources_below within _ (rw here at e)

pub loop-g-init : goal.loop-g-init
loop-g-init c = scan-none _ _ _ c.requires.count_bound.2

pub bounds-depths-gate : goal.bounds-depths-gate
bounds-depths-gate c =
    let gate = (goal.at.bounds-depths-gate c).After-from-gate in
    omega (arith, (below gate).0, within gate, c.requires.count_bound.1)

pub bounds-depths-gate-in-loop-g : goal.bounds-depths-gate-in-loop-g
bounds-depths-gate-in-loop-g c =
    let gate = (goal.at.bounds-depths-gate-in-loop-g c).After-from-gate in
    omega (arith, (below gate).1, within gate, c.requires.count_bound.1)

pub overflow_add-depth : goal.overflow_add-depth
overflow_add-depth c =
    let gate = (goal.at.overflow_add-depth c).After-from-gate in
    omega (arith, scan-low c.loop-g.invariant _ (depth gate c.max-depth.ensures), within gate)

pub bounds-depths-first : goal.bounds-depths-first
bounds-depths-first c = omega (arith, within (goal.at.bounds-depths-first c).After-from-gate, c.requires.count_bound.1)

pub loop-g-preserved : goal.loop-g-preserved
loop-g-preserved c =
    let gate = (goal.at.loop-g-preserved c).After-from-gate in
    scan-more c.loop-g.invariant _ _ (omega (arith, within gate)) (depth gate c.max-depth.ensures) c.max-deepest.ensures

pub returns : goal.returns
returns c =
    let end : c.loop-g.g ≡ length c.args.gates.now / 5 = omega (arith, c.as_chunks.ensures.front_len) in
    rw end at c.loop-g.invariant.top
