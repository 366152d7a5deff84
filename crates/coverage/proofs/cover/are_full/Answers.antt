-- `cover::are_full` meets its contract.
use native.Mathlib.Omega.{arith}
use mathlib.Core.Path.{◌∙◌}
use borrow.Author.Tests.{tests}
use lib.Dec.{eqb}
use Rattle.std.proofs.Common.{rules}
use Rattle.std.proofs.lemmas.Iterator.{YieldsList-from_slice}
use Rattle.std.proofs.lemmas.Iterator.Search.{all_from_yields_List}
use Rattle.bits.proofs.Bits.{ones}
use Rattle.coverage.proofs.Covers.{all-full}
use Rattle.coverage.proofs.cover.are_full.Goals as goal

pub returns : goal.returns
returns c =
    all_from_yields_List (λ w. eqb w ones) _ _ c.all.result c.all.ensures.ran (YieldsList-from_slice c.args.words.now cc) (λ x b q k. search (rules, tests))
    ∙ all-full c.args.words.now (λ i. omega (arith, c.type_inv.words i))
