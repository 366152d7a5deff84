-- The service from-rules: what it returns and writes.
use Rattle.std.specs.Prelude.{ℕ, List, [], ◌∷◌}
use Rattle.fields.specs.Fields.{fields_of}
use Rattle.fields.specs.Refusals.{first_no}
use Rattle.files.specs.Room.{Writing, writing_of}
use Rattle.table.specs.Encode.{bytes_of}
use Rattle.functions.specs.Functions.{Function, functions_of, canonical}
use Rattle.canonical.specs.Service.{laid_of, laid_number}
use Rattle.rulesheet.specs.Rules.{RuleSheet, rule_sheet_in, form_of, form_number}
use Rattle.coverage.specs.Coverage.{shares_of, shares_number, gaps_of, gaps_number, ruled_at}

-- The outputs' functions, and the file of their table.
abbrev pub functions_in : RuleSheet → ℕ → Function
functions_in s = functions_of s.contacts (ruled_at s)

abbrev pub table_for : RuleSheet → List ℕ
table_for s = bytes_of (canonical s.contacts s.outputs (functions_in s))

-- Questions 18, 19, 20, then 17.
unfoldable pub rules_refusal : List ℕ → ℕ
rules_refusal file =
    let s = rule_sheet_in file in
    first_no
    (form_number (form_of (fields_of file))
    ∷ shares_number (shares_of s)
    ∷ gaps_number (gaps_of s)
    ∷ laid_number (laid_of s.contacts s.outputs (functions_in s))
    ∷ [])

-- It writes the table that gives each input the word of its rule.
unfoldable pub from_rules_of : List ℕ → List ℕ → Writing
from_rules_of file buffer = writing_of (rules_refusal file) (table_for (rule_sheet_in file)) buffer
