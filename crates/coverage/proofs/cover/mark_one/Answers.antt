-- `cover::mark_one` meets its contract.
use native.Mathlib.Omega.{arith}
use Prim.Native.Nat.{◌/◌, ◌%◌, ◌^◌}
use mathlib.Core.Path.{◌≡◌, sym, ap, ◌∙◌}
use mathlib.Core.Bool.{Bool, false, cond}
use borrow.Author.Tests.{ne_eqb}
use lib.Bits.{bit_or, or_zero_r}
use lib.ListN.{get_or, set}
use lib.Seq.{set-get_or}
use Rattle.rulesheet.specs.Rules.{has_output}
use Rattle.coverage.proofs.cover.mark_one.Goals as goal

pub returns-then-word-j-eq0 : goal.returns-then-word-j-eq0
returns-then-word-j-eq0 c =
    let a = c.args in
    let l = a.truths.now in
    let out : has_output a.word a.j ≡ false = ne_eqb (a.word / 2 ^ a.j % 2) 1 (λ z. omega (arith, c.if-word-j-eq0.true)) in
    sym (ap (λ (b : Bool). set l a.at (bit_or (get_or l a.at 0) (cond b a.pattern 0))) out
    ∙ ap (set l a.at) (or_zero_r (get_or l a.at 0)) ∙ set-get_or l a.at 0)
