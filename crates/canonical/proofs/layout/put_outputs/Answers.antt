-- `layout::put_outputs` meets its contract: the fields before the levels', one after the other.
use mathlib.Core.Path.{ap, ◌∙◌}
use Prim.Native.Nat.{ℕ}
use mathlib.Core.List.{List}
use lib.Seq.{sets, length-take-le}
use Rattle.std.proofs.Common.{is_some}
use Rattle.std.proofs.lemmas.List.{take_at}
use Rattle.fields.specs.Fields.{field_bytes}
use Rattle.canonical.specs.Inner.Blocks.{is_few}
use Rattle.canonical.proofs.Prefixes.{head-level, head-put}
use Rattle.canonical.proofs.layout.put_outputs.Goals as goal

pub returns-in_err-enter-clause-value : goal.returns-in_err-enter-clause-value
returns-in_err-enter-clause-value c =
    let t = c.args.truths in
    ap is_some c.from_residual.ensures ∙ c.in_err-enter.ensures.value ∙ ap (is_few t.left) (head-level t.words.now t.left c.args.outputs.now)

pub returns-clause-value : goal.returns-clause-value
returns-clause-value c =
    let t = c.args.truths in
    c.in_ok-enter.ensures.value ∙ ap (is_few t.left) (head-level t.words.now t.left c.args.outputs.now)

pub returns-clause-put : goal.returns-clause-put
returns-clause-put c =
    let t = c.args.truths in
    head-put t.words.now t.left c.args.outputs.now c.put_field.ensures
    (c.put_field-2.ensures ∙ ap (λ (v : List ℕ). sets c.put_field.new.file 4 (field_bytes (record { tag = 2; value = v }))) (take_at c.enter.new.numbers _ _ (c.enter.auto.numbers ∙ length-take-le _ _ c.requires.0))) c.in_ok-enter.ensures.numbered
