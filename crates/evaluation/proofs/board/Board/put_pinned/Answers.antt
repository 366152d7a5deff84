-- `Board::put_pinned` meets its contract: the gate's two pins, then its line.
use native.Mathlib.Omega.{arith}
use Prim.Native.Nat.{ℕ, ◌+◌, ◌*◌, ◌-◌, ◌/◌, ◌<◌}
use mathlib.Core.Path.{◌≡◌, refl, sym, ap, ◌∙◌}
use lib.ListN.{length, get_or}
use Rattle.std.specs.Prelude.{Option}
use Rattle.std.specs.Option.{unwrap_or}
use Rattle.netlist.specs.Netlist.{gate_at}
use Rattle.netlist.proofs.Sound.{GateOn}
use Rattle.wiring.proofs.Tests.{gates-at}
use Rattle.simulation.specs.Run.{gate_of}
use Rattle.simulation.specs.Service.{read_back}
use Rattle.evaluation.specs.Inner.Walk.{first_of}
use Rattle.evaluation.proofs.Walking.{gate-pinned}
use Rattle.evaluation.proofs.board.Board.put_pinned.Goals.{After-gate_at-gate, in-Some, in-None, in-Some-held, in-None-held, in-Some-held-2, in-None-held-2}
use Rattle.evaluation.proofs.board.Board.put_pinned.Goals as goal

-- The line is small, in the buffer, and its gate reads lower lines.
module _ (c : After-gate_at-gate) where
  abbrev g : ℕ
  g = c.args.line - first_of c.args.self.now

  at : c.args.line ≡ first_of c.args.self.now + g
  at = omega (arith, c.requires.bounds.0)

  within : g < length c.args.self.now.gates.now / 5
  within = omega (arith, at, c.requires.bounds.1)

  fits : c.args.line < length c.args.lines.now
  fits = omega (arith, c.requires.bounds.1, c.requires.room)

  small : c.args.line < 10628
  small = let ready = c.args.self.now.ready in omega (arith, c.requires.bounds.1, ready.few, ready.many)

  gate-is : c.gate_at-gate.result ≡ gate_at c.args.self.now.gates.now g
  gate-is = rw c.gate_line.ensures at c.gate_at-gate.ensures

  wired : GateOn c.args.line c.gate_at-gate.result
  wired =
      let on = gates-at (first_of c.args.self.now) c.args.self.now.gates.now c.args.self.now.ready.wired g within in
      rw gate-is (record { kind = on.kind; left = omega (arith, on.left, at); right = omega (arith, on.right, at) })

pub bounds-lines-gate : goal.bounds-lines-gate
bounds-lines-gate c =
    let here = (goal.at.bounds-lines-gate c).After-gate_at-gate in
    omega (arith, (wired here).left, fits here)

pub held-requires : goal.held-requires
held-requires c =
    (c.requires.walks.pins, omega (arith, small (goal.at.held-requires c).After-gate_at-gate))

pub bounds-lines-gate-in-None-held : goal.bounds-lines-gate-in-None-held
bounds-lines-gate-in-None-held c =
    let here = (goal.at.bounds-lines-gate-in-None-held c).After-gate_at-gate in
    omega (arith, (wired here).right, fits here)

pub held-requires-2 : goal.held-requires-2
held-requires-2 c =
    let next : 65537 + 2 * c.args.line + 1 ≡ 65538 + 2 * c.args.line = omega arith in
    (rw next at c.held.ensures.awaits, omega (arith, small (goal.at.held-requires-2 c).After-gate_at-gate))

pub make-requires : goal.make-requires
make-requires c = (wired (goal.at.make-requires c).After-gate_at-gate).kind

pub held-requires-3 : goal.held-requires-3
held-requires-3 c =
    (c.requires.walks.lines, omega (arith, small (goal.at.held-requires-3 c).After-gate_at-gate))

pub bounds-lines-line : goal.bounds-lines-line
bounds-lines-line c = fits (goal.at.bounds-lines-line c).After-gate_at-gate

pub returns : goal.returns
returns c =
    let here = (goal.at.returns c).After-gate_at-gate in
    let a = c.args in
    let m = c.gate_at-gate.result in
    let first = get_or a.lines.now m.left 0 in
    let second = get_or a.lines.now m.right 0 in
    let left : c.match-held.left ≡ unwrap_or c.held.result first =
    elim c.match-held.branch [
      | in-Some w ↦ w.left-is ∙ ap (λ (o : Option ℕ). unwrap_or o first) (sym w.in-Some.is)
      | in-None w ↦ w.left-is ∙ ap (λ (o : Option ℕ). unwrap_or o first) (sym w.in-None.is)
    ] in
    let right : c.match-held-2.right ≡ unwrap_or c.held-2.result second =
    elim c.match-held-2.branch [
      | in-Some-held w ↦ w.right-is ∙ ap (λ (o : Option ℕ). unwrap_or o second) (sym w.in-Some-held.is)
      | in-None-held w ↦ w.right-is ∙ ap (λ (o : Option ℕ). unwrap_or o second) (sym w.in-None-held.is)
    ] in
    let made = gate_of m.kind (read_back c.match-held.left) (read_back c.match-held-2.right) in
    let shown : c.match-held-3.lines ≡ unwrap_or c.held-3.result made =
    elim c.match-held-3.branch [
      | in-Some-held-2 w ↦ w.lines-is ∙ ap (λ (o : Option ℕ). unwrap_or o made) (sym w.in-Some-held-2.is)
      | in-None-held-2 w ↦ w.lines-is ∙ w.make.ensures ∙ ap (λ (o : Option ℕ). unwrap_or o made) (sym w.in-None-held-2.is)
    ] in
    let both =
    gate-pinned a.self.now a.lines.now c.requires.room a.line (g here) m (at here) (within here) (gate-is here) c.held.result
    c.held-2.result c.held-3.result c.held.ensures left c.held-2.ensures right refl c.held-3.ensures shown in
    record { walks = both.0; lines_after = both.1 }
