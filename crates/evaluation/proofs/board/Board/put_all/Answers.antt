-- `Board::put_all` meets its contract. The loop's invariant: the gates passed are worked out, and the walk awaits the next holds.
use native.Mathlib.Omega.{arith}
use Prim.Native.Nat.{ℕ, ◌+◌, ◌*◌, ◌-◌, ◌/◌, ◌≤◌, ◌<◌}
use mathlib.Core.Path.{◌≡◌, refl, ap, ◌∙◌}
use Rattle.netlist.specs.Netlist.{holds_of}
use Rattle.evaluation.specs.Inner.Walk.{worked}
use Rattle.evaluation.proofs.Looking.{in_order, ahead-rank}
use Rattle.evaluation.proofs.Putting.{none-put, further-put}
use Rattle.evaluation.proofs.Walking.{awaits-on, pins-free}
use Rattle.evaluation.proofs.board.Board.put_all.Goals.{After-min-stop, After-put_gates-cursor}
use Rattle.evaluation.proofs.board.Board.put_all.Goals as goal

pub loop-cursor-init : goal.loop-cursor-init
loop-cursor-init c =
    let a = c.args in
    let b = a.self.now in
    let p = c.requires.bounds in
    record {
      from = omega arith;
      upto = p.1;
      walks = record { lines = c.requires.awaits; pins = c.seek.ensures };
      through = none-put (holds_of b.holds.now) b.rails.now b.gates.now a.from (omega (arith, p.0)) a.lines.now
          (omega (arith, p.1, p.2, c.requires.room));
      room = refl;
    }

-- Where the gates up to the next held pin stop.
module _ (c : After-min-stop) where
  abbrev stop : ℕ
  stop = c.min-stop.result

  small : c.args.to < 10629
  small = let ready = c.args.self.now.ready in omega (arith, c.requires.bounds.2, ready.few, ready.many)

  -- The awaited pin is not before the line.
  pin-from : 65537 + 2 * c.loop-cursor.at ≤ c.loop-cursor.cursor.pin.rank
  pin-from =
      let pins = c.loop-cursor.invariant.walks.pins in
      let rank = pins.is in
      let far : 65537 + 2 * c.loop-cursor.at ≤ 262144 = omega (arith, small, c.loop-cursor.invariant.upto) in
      omega (arith, ahead-rank _ (in_order c.args.self.now) _ _ pins.ahead far)

  low : c.loop-cursor.at ≤ stop
  low = omega (arith, c.min-stop.ensures, pin-from, c.loop-cursor.invariant.upto)

  bound : stop ≤ (c.loop-cursor.cursor.pin.rank - 65537) / 2
  bound = omega (arith, c.min-stop.ensures)

-- The gates up to there.
through : (c : After-put_gates-cursor) → c.put_gates-cursor.new.lines ≡ worked c.args.self.now c.args.from c.min-stop.result c.args.lines.now
through c =
    let a = c.args in
    let b = a.self.now in
    let inv = c.loop-cursor.invariant in
    let here = (goal.at-After-put_gates-cursor c).After-min-stop in
    let p = c.requires.bounds in
    let stop : c.min-stop.result ≤ a.to = omega (arith, c.min-stop.ensures) in
    further-put (holds_of b.holds.now) b.rails.now b.gates.now a.from c.loop-cursor.at c.min-stop.result (omega (arith, p.0)) inv.from (low here)
    (omega (arith, p.2)) a.lines.now (omega (arith, p.2, c.requires.room)) inv.through c.put_gates-cursor.ensures.lines_after

pub put_gates-cursor-requires-clause-awaits : goal.put_gates-cursor-requires-clause-awaits
put_gates-cursor-requires-clause-awaits c =
    let here = (goal.at.put_gates-cursor-requires-clause-awaits c).After-min-stop in
    let pins = c.loop-cursor.invariant.walks.pins in (
      c.loop-cursor.invariant.walks.lines,
      pins-free c.args.self.now c.loop-cursor.at c.min-stop.result c.loop-cursor.cursor.pin pins (bound here) (low here) (omega (arith, pin-from here)),
    )

pub returns-then-stop-to : goal.returns-then-stop-to
returns-then-stop-to c =
    through (goal.at.returns-then-stop-to c).After-put_gates-cursor
    ∙ ap (λ (k : ℕ). worked c.args.self.now c.args.from k c.args.lines.now) c.if-stop-to.true

pub put_pinned-requires-clause-walks : goal.put_pinned-requires-clause-walks
put_pinned-requires-clause-walks c =
    let here = (goal.at.put_pinned-requires-clause-walks c).After-min-stop in
    let pins = c.loop-cursor.invariant.walks.pins in
    record {
      lines = c.put_gates-cursor.ensures.awaits;
      pins = awaits-on c.args.self.now c.loop-cursor.at c.min-stop.result c.loop-cursor.cursor.pin pins (bound here) (low here) (omega (arith, pin-from here));
    }

pub loop-cursor-preserved : goal.loop-cursor-preserved
loop-cursor-preserved c =
    let here = (goal.at.loop-cursor-preserved c).After-min-stop in
    let a = c.args in
    let b = a.self.now in
    let p = c.requires.bounds in
    let stop = c.min-stop.result in
    let below : stop + 1 ≤ a.to = omega (arith, c.if-stop-to.false, c.min-stop.ensures) in
    let from : a.from ≤ stop = omega (arith, low here, c.loop-cursor.invariant.from) in
    record {
      from = omega arith;
      upto = below;
      walks = c.put_pinned.ensures.walks;
      through = further-put (holds_of b.holds.now) b.rails.now b.gates.now a.from stop (stop + 1) (omega (arith, p.0)) from (omega arith)
          (omega (arith, p.2)) a.lines.now (omega (arith, p.2, c.requires.room))
          (through (goal.at.loop-cursor-preserved c).After-put_gates-cursor) c.put_pinned.ensures.lines_after;
      room = c.put_pinned.auto.lines ∙ c.put_gates-cursor.auto.lines ∙ c.loop-cursor.invariant.room;
    }
