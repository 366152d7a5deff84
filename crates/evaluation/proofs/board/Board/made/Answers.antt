-- `Board::made` meets its contract: the gate reads lower lines.
use native.Mathlib.Omega.{arith}
use Prim.Native.Nat.{ℕ, ◌+◌, ◌-◌, ◌/◌, ◌<◌}
use mathlib.Core.Path.{◌≡◌, ap, ◌∙◌}
use lib.ListN.{length, get_or}
use Rattle.netlist.specs.declared.Gate.{Gate}
use Rattle.netlist.specs.Netlist.{gate_at}
use Rattle.netlist.proofs.Sound.{GateOn}
use Rattle.wiring.proofs.Tests.{gates-at}
use Rattle.simulation.specs.Run.{gate_of}
use Rattle.simulation.specs.Service.{read_back}
use Rattle.evaluation.specs.Inner.Walk.{first_of}
use Rattle.evaluation.proofs.board.Board.made.Goals.{After-gate_at-gate}
use Rattle.evaluation.proofs.board.Board.made.Goals as goal

module _ (c : After-gate_at-gate) where
  abbrev g : ℕ
  g = c.args.line - first_of c.args.self.now

  at : c.args.line ≡ first_of c.args.self.now + g
  at = omega (arith, c.requires.bounds.0)

  within : g < length c.args.self.now.gates.now / 5
  within = omega (arith, at, c.requires.bounds.1)

  gate-is : c.gate_at-gate.result ≡ gate_at c.args.self.now.gates.now g
  gate-is = rw c.gate_line.ensures at c.gate_at-gate.ensures

  wired : GateOn c.args.line c.gate_at-gate.result
  wired =
      let on = gates-at (first_of c.args.self.now) c.args.self.now.gates.now c.args.self.now.ready.wired g within in
      rw gate-is (record { kind = on.kind; left = omega (arith, on.left, at); right = omega (arith, on.right, at) })

pub bounds-lines-gate : goal.bounds-lines-gate
bounds-lines-gate c = omega (arith, (wired (goal.at.bounds-lines-gate c).After-gate_at-gate).left, c.requires.room)

pub bounds-lines-gate-2 : goal.bounds-lines-gate-2
bounds-lines-gate-2 c = omega (arith, (wired (goal.at.bounds-lines-gate-2 c).After-gate_at-gate).right, c.requires.room)

pub make-requires : goal.make-requires
make-requires c = (wired (goal.at.make-requires c).After-gate_at-gate).kind

pub returns : goal.returns
returns c =
    c.make.ensures
    ∙ ap (λ (m : Gate). gate_of m.kind (read_back (get_or c.args.lines.now m.left 0)) (read_back (get_or c.args.lines.now m.right 0)))
    (gate-is (goal.at.returns c).After-gate_at-gate)
