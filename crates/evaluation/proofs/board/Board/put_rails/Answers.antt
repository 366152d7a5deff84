-- `Board::put_rails` meets its contract. The loop's invariant: the rails passed are worked out, and the next line's hold is awaited.
use native.Mathlib.Omega.{arith}
use Prim.Native.Nat.{◌<◌}
use mathlib.Core.Path.{◌≡◌, refl, ◌∙◌}
use lib.ListN.{length-set}
use Rattle.netlist.specs.Netlist.{holds_of}
use Rattle.evaluation.specs.Inner.Walk.{first_of}
use Rattle.evaluation.proofs.Putting.{none-put, rail-put}
use Rattle.evaluation.proofs.board.Board.put_rails.Goals.{At-loop-x}
use Rattle.evaluation.proofs.board.Board.put_rails.Goals as goal

pub loop-x-init : goal.loop-x-init
loop-x-init c =
    let a = c.args in
    let b = a.self.now in
    let p = c.requires.le_from in
    record {
      upto = p.1;
      awaits = c.requires.awaits;
      through = none-put (holds_of b.holds.now) b.rails.now b.gates.now a.from p.0 a.lines.now (omega (arith, p.1, p.3));
      room = refl;
    }

-- The turn's line is a rail's.
inside_of : (c : At-loop-x) → c.loop-x.x < c.args.to → c.loop-x.x < first_of c.args.self.now
inside_of c l = omega (arith, c.requires.le_from.2 (omega (arith, c.loop-x.auto.x)))

pub held-requires : goal.held-requires
held-requires c =
    let inside = inside_of (goal.at.held-requires c).At-loop-x c.loop-x-test.true in
    (c.loop-x.invariant.awaits, omega (arith, c.args.self.now.ready.few))

pub loop-x-preserved : goal.loop-x-preserved
loop-x-preserved c =
    let a = c.args in
    let b = a.self.now in
    let p = c.requires.le_from in
    let inv = c.loop-x.invariant in
    let x = c.loop-x.x in
    let inside = inside_of (goal.at.loop-x-preserved c).At-loop-x c.loop-x-test.true in
    record {
      upto = omega arith;
      awaits = c.held.ensures.awaits;
      through = rail-put (holds_of b.holds.now) b.rails.now b.gates.now a.from p.0 a.lines.now x _ c.loop-x.auto.x (omega (arith, p.3)) inv.through inside
          (c.unwrap_or.ensures ∙ c.held.ensures.is-held x 0 _ refl (omega (arith, b.ready.few)) (omega arith));
      room = simp length-set inv.room;
    }

pub returns : goal.returns
returns c =
    let done : c.loop-x.x ≡ c.args.to = omega (arith, c.loop-x.invariant.upto, c.loop-x-test.false) in
    record { awaits = rw done at c.loop-x.invariant.awaits; lines_after = rw done at c.loop-x.invariant.through }
