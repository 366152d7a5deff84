-- `form::count_rules` meets its contract. The loop's invariant: the fields passed are rules, and the others follow at the place.
use Prim.Native.Nat.{◌-◌, ◌≤◌}
use mathlib.Core.Path.{◌≡◌}
use mathlib.Core.Bool.{true}
use lib.ListN.{length}
use Rattle.fields.specs.Bounded.{all}
use Rattle.fields.specs.Fields.{fields_from, item_in}
use Rattle.files.specs.Inner.Row.{behind}
use Rattle.rulesheet.specs.Rules.{is_rule}
use Rattle.rulesheet.proofs.form.count_rules.Given as goal

abbrev pub invariant-loop-i : goal.invariant-loop-i
invariant-loop-i l =
    (l.i ≤ 64) × (fields_from l.file l.place ≡ behind l.i (fields_from l.file l.at)) × (l.i ≤ length (fields_from l.file l.at).items)
    × (all l.i (λ k. is_rule l.n l.m (item_in (fields_from l.file l.at).items k)) ≡ true)

abbrev pub decreases-loop-i : goal.decreases-loop-i
decreases-loop-i l = 64 - l.i
