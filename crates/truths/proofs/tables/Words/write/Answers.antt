-- `Words::write` meets its contract: the table is that of the functions that the truth tables give.
use mathlib.Core.Path.{◌∙◌}
use Rattle.rows.proofs.Rows.{rows-tabled}
use Rattle.drawing.specs.Drawing.{drawn_at, parted}
use Rattle.truths.proofs.Asked.{limited-values}
use Rattle.truths.proofs.tables.Words.write.Goals as goal

pub returns : goal.returns
returns g c =
    let s = c.args.self.now.drawing in
    c.write.ensures
    ∙ rows-tabled _ _ (drawn_at (parted s.parts)) c.put_outputs.new.truths (limited-values (parted s.parts) s.limited) c.put_outputs.ensures _
