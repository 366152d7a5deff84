-- `Words::put_outputs` meets its contract. The loop's invariant: the outputs passed have their truth tables.
use Rattle.rows.specs.Inner.Rows.{Tabulated}
use Rattle.drawing.specs.Drawing.{drawn_at, parted}
use Rattle.truths.proofs.tables.Words.put_outputs.Given as goal

abbrev pub invariant-loop-j : goal.invariant-loop-j
invariant-loop-j l = Tabulated l.self.drawing.parts.contacts l.j (drawn_at (parted l.self.drawing.parts)) l.truths
