-- The parts of question 18, by the counts that they give, and the rules as a walk finds them.
use Rattle.std.specs.Prelude.{ℕ, ◌&&◌, cond, Option, Some, None, List, map, eqb, ltb, length, get_or}
use Rattle.fields.specs.Fields.{Item, Fields, fields_from, fields_of}
use Rattle.fields.specs.Refusals.{framing_number}
use Rattle.files.specs.Inner.Row.{ends_within}
use Rattle.rulesheet.specs.Rules.{rule_fields, is_outputs, are_rules}

-- The count of outputs in a field, if it is so formed.
abbrev pub outputs_counted : Item → Option ℕ
outputs_counted i = cond (is_outputs i) (Some (get_or i.value 0 0)) None

-- So many rules, if there are some and the fields past them are none.
abbrev pub rules_ended : ℕ → Fields → Option ℕ
rules_ended count fs = cond (ltb 0 count && ends_within 0 fs) (Some count) None

-- The count of the rules that are the whole rest of a file, if it is so formed.
abbrev pub rules_counted : ℕ → ℕ → Fields → Option ℕ
rules_counted n m fs = cond (eqb (framing_number fs.framing) 0 && are_rules n m fs.items) (Some (length fs.items)) None

-- The values of some fields: those from a place on, and those of a file's rules.
abbrev pub values_of : List Item → List (List ℕ)
values_of is = map (λ i. i.value) is

abbrev pub rules_from : List ℕ → ℕ → List (List ℕ)
rules_from file at = values_of (fields_from file at).items

abbrev pub rules_in : List ℕ → List (List ℕ)
rules_in file = values_of (rule_fields (fields_of file).items)
