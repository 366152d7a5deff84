-- `passes::HeldBoard::put_gates` meets its contract. The loop's invariant: at each bit the lines below gate g obey the run rule.
use Prim.Native.Nat.{◌+◌, ◌/◌, ◌<◌}
use native.Mathlib.Omega.{arith}
use mathlib.Core.Path.{◌≡◌, refl, ap}
use lib.ListN.{length, length-map}
use Rattle.netlist.specs.Netlist.{gate_line, gates_of}
use Rattle.batches.specs.declared.batch.TwoBatches.{TwoBatches}
use Rattle.batches.specs.Inner.Batches.{firsts, seconds}
use Rattle.search.proofs.GateBatches.{GatesReady, none_made, half-made, kind-in, left_in, right-in}
use Rattle.search.proofs.passes.HeldBoard.put_gates.Goals.{In-loop-g}
use Rattle.search.proofs.passes.HeldBoard.put_gates.Goals as goal

pub loop-g-init : goal.loop-g-init
loop-g-init c = record { first = none_made _ _ _ _; second = none_made _ _ _ _ }

below : (c : In-loop-g) → c.loop-g.g < length c.args.self.board.gates.now / 5
below c = omega (arith, c.args.self.count)

-- What the first batches are worked out from, and what the second are.
module _ (c : In-loop-g) where
  first-ready : GatesReady (gate_line c.args.self.board.contacts) c.args.self.hold c.args.self.board.gates.now c.args.self.taken.now (firsts c.args.batches.now)
  first-ready = record {
    after = omega arith;
    fits = omega (arith, c.requires.room, length-map c.args.batches.now (λ (w : TwoBatches). w.first));
    wired = c.args.self.board.wired;
    taken = c.args.self.left;
    constant = c.requires.constants.0;
  }

  second-ready : GatesReady (gate_line c.args.self.board.contacts) c.args.self.hold c.args.self.board.gates.now c.args.self.taken.now (seconds c.args.batches.now)
  second-ready = record {
    after = omega arith;
    fits = omega (arith, c.requires.room, length-map c.args.batches.now (λ (w : TwoBatches). w.second));
    wired = c.args.self.board.wired;
    taken = c.args.self.left;
    constant = c.requires.constants.1;
  }

pub make_batches-requires : goal.make_batches-requires
make_batches-requires c =
    let at = (goal.at.make_batches-requires c).In-loop-g in
    let l = below at in
    let p = first-ready at in
    let room : gate_line c.args.self.board.contacts + c.loop-g.g < length c.loop-g.batches = omega (arith, c.requires.room) in
    (omega (arith, kind-in p c.loop-g.g l), omega (arith, left_in p c.loop-g.g l), omega (arith, right-in p c.loop-g.g l))

pub loop-g-preserved : goal.loop-g-preserved
loop-g-preserved c =
    let here = (goal.at.loop-g-preserved c).In-loop-g in
    let l = below here in record {
      first =
          rw c.gate_line-first.ensures (half-made (λ w. w.first) refl _ _ _ c.args.batches.now c.loop-g.batches _ c.loop-g.g c.make_batches.result (first-ready here) l
          (ap (λ (w : TwoBatches). w.first) c.make_batches.ensures) c.loop-g.invariant.first);
      second =
          rw c.gate_line-first.ensures (half-made (λ w. w.second) refl _ _ _ c.args.batches.now c.loop-g.batches _ c.loop-g.g c.make_batches.result (second-ready here) l
          (ap (λ (w : TwoBatches). w.second) c.make_batches.ensures) c.loop-g.invariant.second);
    }

pub returns-clause-first : goal.returns-clause-first
unfolding gates_of
returns-clause-first c =
    let e : c.loop-g.g ≡ length c.args.self.board.gates.now / 5 = omega (arith, c.args.self.count) in
    λ k l. rw e at (c.loop-g.invariant.first.bits k l)

pub returns-clause-second : goal.returns-clause-second
unfolding gates_of
returns-clause-second c =
    let e : c.loop-g.g ≡ length c.args.self.board.gates.now / 5 = omega (arith, c.args.self.count) in
    λ k l. rw e at (c.loop-g.invariant.second.bits k l)
