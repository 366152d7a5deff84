-- `value` meets its contract: where the field runs past the file, what is taken past the end is nothing.
use native.Mathlib.Omega.{arith}
use Prim.Native.Nat.{ℕ, ◌-◌}
use mathlib.Core.Path.{ap, ◌∙◌}
use Rattle.std.proofs.lemmas.List.{take_min, drop_min}
use lib.ListN.{length, take, drop, length-drop}
use lib.Seq.{take_all}
use Rattle.fields.specs.Fields.{value_of}
use Rattle.fields.proofs.value.Goals as goal

pub returns : goal.returns
unfolding value_of
returns c =
    let file = c.args.file.now in
    let field = c.args.field in
    let d = drop c.min.result file in
    let rest = take_all (length file - c.min.result) d (omega (arith, length-drop c.min.result file)) in
    ap (λ (k : ℕ). take k (take (length file - c.min.result) d)) c.min-2.ensures
    ∙ take_min field.len (take (length file - c.min.result) d)
    ∙ ap (take field.len) (rest ∙ ap (λ (k : ℕ). drop k file) c.min.ensures ∙ drop_min field.start file)
