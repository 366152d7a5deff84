-- `write::put_field` meets its contract: three bytes, and the value behind them.
use native.Mathlib.Numerals.{towards_suc}
use Prim.Native.Nat.{ℕ, ◌+◌, ◌/◌, ◌%◌}
use mathlib.Core.Path.{◌≡◌, ap, ◌∙◌}
use mathlib.Core.List.{List, [], ◌∷◌}
use lib.ListN.{length, set}
use lib.Seq.{sets}
use Rattle.files.proofs.write.put_field.Goals as goal

pub returns : goal.returns
returns c =
    let a = c.args in
    let n = length a.value.now in
    let counted : c.put_number.new.out ≡ sets (set a.file.now a.at a.tag) (a.at + 1) (n / 256 ∷ n % 256 ∷ []) = c.put_number.ensures in
    c.copy.ensures ∙ ap (λ (m : List ℕ). sets m (a.at + 3) a.value.now) counted ∙ simp towards_suc
