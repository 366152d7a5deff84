-- `passes::HeldBoard::put_gates` meets its contract. The loop's invariant: at each bit the lines below gate g obey the run rule.
use Rattle.netlist.specs.Netlist.{gate_line}
use Rattle.batches.specs.Inner.Batches.{firsts, seconds}
use Rattle.search.proofs.GateBatches.{MadeBatches}
use Rattle.search.proofs.passes.HeldBoard.put_gates.Given as goal

abbrev pub invariant-loop-g : goal.invariant-loop-g
invariant-loop-g l = record {
  first : MadeBatches l.self.board.gates.now (gate_line l.self.board.contacts) l.self.hold (firsts l.initial.batches) (firsts l.batches) l.g;
  second : MadeBatches l.self.board.gates.now (gate_line l.self.board.contacts) l.self.hold (seconds l.initial.batches) (seconds l.batches) l.g;
}
