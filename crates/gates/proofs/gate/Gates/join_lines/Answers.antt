-- `Gates::join_lines` meets its contract: no line, or the OR tree of the lines.
use native.Mathlib.Omega.{arith}
use Rattle.gates.proofs.Lines.{lines-none, lines-tree, lines-room}
use Rattle.gates.proofs.gate.Gates.join_lines.Goals as goal

pub returns-in-empty : goal.returns-in-empty
returns-in-empty c = lines-none _ (omega arith)

pub or_tree-requires : goal.or_tree-requires
or_tree-requires c = (omega arith, lines-room _ (omega arith) c.requires)

pub returns-in_default : goal.returns-in_default
returns-in_default c = lines-tree _ (omega arith) c.or_tree.ensures
