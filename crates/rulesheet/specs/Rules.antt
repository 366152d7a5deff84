-- Rule sheets: question 18, the rules that an input fits, and the word that a rule gives.
use Rattle.std.specs.Prelude.{ℕ, zero, suc, ◌+◌, ◌/◌, ◌%◌, ◌^◌, Bool, true, not, ◌&&◌, cond, Option, Some, None, List, ltb, leb, eqb, length, get_or, drop}
use Rattle.fields.specs.Bounded.{all}
use Rattle.fields.specs.Fields.{Item, Fields, fields_of, item_in, value_in}
use Rattle.fields.specs.Refusals.{framing_number, between}
use Rattle.files.specs.Header.{contacts_in, contacts_number, contacts_of}
use Rattle.diagram.specs.Diagram.{Input}

-- The counts of contacts, outputs and rules, and each rule: a byte for each contact, contact 0 first, then its word.
pub record RuleSheet : Type 0 where
  pub contacts : ℕ
  pub outputs : ℕ
  pub count : ℕ
  pub rule : ℕ → List ℕ

-- The number in the second field, and the fields past the first two.
abbrev pub outputs_of : List Item → ℕ
outputs_of is = get_or (value_in is 1) 0 0

abbrev pub rule_fields : List Item → List Item
rule_fields is = drop 2 is

abbrev pub rule_sheet_of : List Item → RuleSheet
rule_sheet_of is =
    record {
      contacts = contacts_of is;
      outputs = outputs_of is;
      count = length (rule_fields is);
      rule = value_in (rule_fields is);
    }

abbrev pub rule_sheet_in : List ℕ → RuleSheet
rule_sheet_in file = rule_sheet_of (fields_of file).items

-- The values of a contact that a rule's byte fits: 0 open alone, 1 closed alone, 2 either.
abbrev pub accepts : ℕ → Bool → Bool
accepts zero b = not b
accepts (suc zero) b = b
accepts (suc (suc c)) b = true

-- An input fits a rule of n contacts if each contact does.
abbrev pub fits : ℕ → List ℕ → Input → Bool
fits n rule x = all n (λ i. accepts (get_or rule i 0) (x i))

-- A rule's word, and whether it has output j, which has the weight 2^j.
abbrev pub rule_word : ℕ → List ℕ → ℕ
rule_word n rule = get_or rule n 0

abbrev pub has_output : ℕ → ℕ → Bool
has_output word j = eqb (word / 2 ^ j % 2) 1

-- A field of tag 8, length 1, value 1 to 8.
abbrev pub is_outputs : Item → Bool
is_outputs i = eqb i.tag 8 && eqb (length i.value) 1 && between 1 (get_or i.value 0 0) 8

-- A field of tag 9: n bytes of 0, 1 or 2, then a word below 2^m.
abbrev pub is_rule : ℕ → ℕ → Item → Bool
is_rule n m i =
    eqb i.tag 9
    && eqb (length i.value) (n + 1)
    && all n (λ k. leb (get_or i.value k 0) 2)
    && ltb (rule_word n i.value) (2 ^ m)

-- The fields of rules: 1 to 64.
abbrev pub are_rules : ℕ → ℕ → List Item → Bool
are_rules n m is = between 1 (length is) 64 && all (length is) (λ i. is_rule n m (item_in is i))

-- The counts of contacts, outputs and rules.
pub record Counts : Type 0 where
  pub contacts : ℕ
  pub outputs : ℕ
  pub count : ℕ

-- 18. Does the file have whole fields of tags 1 and 8, then 1 to 64 of tag 9, and no more, tag 1 as in question 2, tag 8 of one byte
-- from 1 to 8, each tag 9 of n bytes of 0, 1 or 2 and a word below 2^m? No: 18.
unfoldable pub form_of : Fields → Option Counts
form_of fs =
    let s = rule_sheet_of fs.items in
    cond
    (eqb (framing_number fs.framing) 0
    && eqb (contacts_number (contacts_in fs.items)) 0
    && is_outputs (item_in fs.items 1)
    && are_rules s.contacts s.outputs (rule_fields fs.items))
    (Some (record { contacts = s.contacts; outputs = s.outputs; count = s.count }))
    None

abbrev pub form_number : Option Counts → ℕ
form_number (Some c) = 0
form_number None = 18
