-- The measure is what is left of the file.
use Rattle.std.proofs.Common.{◌-◌, length}
use Rattle.views.proofs.field_rows.walk.Given as goal

abbrev pub decreases-loop-field : goal.decreases-loop-field
decreases-loop-field g l = length l.file - l.cursor.at
