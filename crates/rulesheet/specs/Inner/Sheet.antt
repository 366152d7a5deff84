-- The counts of a sheet that question 18 found.
use Rattle.rulesheet.specs.declared.sheet.Sheet.{Sheet}
use Rattle.rulesheet.specs.Rules.{Counts}

abbrev pub counts_of : Sheet → Counts
counts_of s = record { contacts = s.contacts; outputs = s.outputs; count = s.count }
