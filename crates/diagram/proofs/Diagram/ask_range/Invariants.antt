-- `Diagram::ask_range` meets its contract. The loop's invariant: the mentions of the levels passed name nodes that their levels have.
use Prim.Native.Nat.{suc, ◌≤◌}
use mathlib.Core.Path.{◌≡◌}
use mathlib.Core.Bool.{true}
use Rattle.fields.specs.Bounded.{all}
use Rattle.diagram.proofs.Asked.{named}
use Rattle.diagram.proofs.Diagram.ask_range.Given as goal

abbrev pub invariant-loop-level : goal.invariant-loop-level
invariant-loop-level l = (l.level ≤ suc l.self.contacts) × (all l.level (named l.self) ≡ true)
