-- `writing::write_with` meets its contract: the rooms are large enough.
use native.Mathlib.Omega.{arith}
use Rattle.rows.proofs.Rows.{row-place}
use Rattle.truths.proofs.writing.write_with.Goals as goal

pub write-requires-else-most-le64 : goal.write-requires-else-most-le64
write-requires-else-most-le64 g c =
    let limited = c.args.drawing.limited in
    ((row-place c.args.drawing.parts.contacts _ _ limited.contacts.1 c.fixed_contacts.ensures limited.outputs.1).1, omega arith)
