-- `Board::put_gates` meets its contract. The loop's invariant: the gates passed are worked out, and the next line's hold is awaited.
use native.Mathlib.Omega.{arith}
use Prim.Native.Nat.{ℕ, ◌+◌, ◌-◌, ◌/◌, ◌<◌}
use mathlib.Core.Path.{◌≡◌, refl, sym, ap, ◌∙◌}
use lib.ListN.{length, length-set}
use Rattle.std.specs.Prelude.{Option}
use Rattle.std.specs.Option.{unwrap_or}
use Rattle.netlist.specs.Netlist.{gate_at, holds_of}
use Rattle.evaluation.specs.Inner.Walk.{first_of, made_by}
use Rattle.evaluation.proofs.Putting.{none-put, further-put}
use Rattle.evaluation.proofs.Walking.{gate-held}
use Rattle.evaluation.proofs.board.Board.put_gates.Goals.{in-Some, in-None}
use Rattle.evaluation.proofs.board.Board.put_gates.Goals as goal

pub loop-x-init : goal.loop-x-init
loop-x-init c =
    let a = c.args in
    let b = a.self.now in
    let p = c.requires.bounds in
    record {
      upto = p.1;
      awaits = c.requires.awaits.0;
      through = none-put (holds_of b.holds.now) b.rails.now b.gates.now a.from (omega (arith, p.0)) a.lines.now
          (omega (arith, p.1, p.2, c.requires.room));
      room = refl;
    }

pub loop-x-preserved : goal.loop-x-preserved
loop-x-preserved c =
    let a = c.args in
    let b = a.self.now in
    let p = c.requires.bounds in
    let inv = c.loop-x.invariant in
    let lines = c.loop-x.lines in
    let x = c.loop-x.x in
    let free = c.requires.awaits.1 in
    let g = x - first_of b in
    let at : x ≡ first_of b + g = omega (arith, p.0, c.loop-x.auto.x) in
    let within : g < length b.gates.now / 5 = omega (arith, at, p.2, c.loop-x-test.true) in
    let small : x < 65536 = omega (arith, p.2, b.ready.few, b.ready.many, c.loop-x-test.true) in
    let made = made_by b x lines in
    let has : c.match-held.lines ≡ unwrap_or c.held.result made =
    elim c.match-held.branch [
      | in-Some w ↦ w.lines-is ∙ ap (λ (o : Option ℕ). unwrap_or o made) (sym w.in-Some.is)
      | in-None w ↦ w.lines-is ∙ w.made.ensures ∙ ap (λ (o : Option ℕ). unwrap_or o made) (sym w.in-None.is)
    ] in
    let put =
    gate-held b lines (omega (arith, c.requires.room, inv.room)) x g (gate_at b.gates.now g) at within refl _ _ made c.match-held.lines
    (sym (free x 1 _ (omega arith) (omega arith) c.loop-x.auto.x c.loop-x-test.true))
    (sym (free x 2 _ (omega arith) (omega arith) c.loop-x.auto.x c.loop-x-test.true)) refl
    (has ∙ c.held.ensures.is-held x 0 made refl small (omega arith)) in
    record {
      upto = omega arith;
      awaits = c.held.ensures.awaits;
      through = further-put (holds_of b.holds.now) b.rails.now b.gates.now a.from x (x + 1) (omega (arith, p.0)) c.loop-x.auto.x
          (omega arith) (omega (arith, p.2)) a.lines.now (omega (arith, p.2, c.requires.room)) inv.through put;
      room = simp length-set inv.room;
    }

pub returns : goal.returns
returns c =
    let done : c.loop-x.x ≡ c.args.to = omega (arith, c.loop-x.invariant.upto, c.loop-x-test.false) in
    record { awaits = rw done at c.loop-x.invariant.awaits; lines_after = rw done at c.loop-x.invariant.through }
