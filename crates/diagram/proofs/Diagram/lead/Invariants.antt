-- `Diagram::lead` meets its contract. The loop's invariant: from node u of level l the levels left lead where all lead from the first node.
use Prim.Native.Nat.{◌/◌, ◌-◌, ◌^◌, ◌≤◌, ◌<◌}
use mathlib.Core.Path.{◌≡◌}
use Rattle.diagram.specs.Diagram.{input_of, path}
use Rattle.diagram.proofs.Diagram.lead.Given as goal

abbrev pub invariant-loop-l : goal.invariant-loop-l
invariant-loop-l l = (l.l ≤ l.self.contacts) × (l.u < 256) × (l.rest ≡ l.input / 2 ^ l.l)
    × (path l.self (input_of l.input) (l.self.contacts - l.l) l.l l.u ≡ path l.self (input_of l.input) l.self.contacts 0 l.node)

abbrev pub decreases-loop-l : goal.decreases-loop-l
decreases-loop-l l = l.self.contacts - l.l
