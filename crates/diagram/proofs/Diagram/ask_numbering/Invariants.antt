-- `Diagram::ask_numbering` meets its contract. The loop's invariant: the levels passed are mentioned in turn.
use Prim.Native.Nat.{◌≤◌}
use mathlib.Core.Path.{◌≡◌}
use mathlib.Core.Bool.{true}
use Rattle.fields.specs.Bounded.{all}
use Rattle.diagram.proofs.Asked.{turned}
use Rattle.diagram.proofs.Diagram.ask_numbering.Given as goal

abbrev pub invariant-loop-level : goal.invariant-loop-level
invariant-loop-level l = (l.level ≤ l.self.contacts) × (all l.level (turned l.self) ≡ true)
