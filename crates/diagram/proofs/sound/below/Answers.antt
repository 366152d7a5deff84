-- `sound::below` meets its contract, by what the closure answers of a byte.
use Rattle.std.proofs.Common.{rules}
use lib.Dec.{ltb}
use Rattle.std.proofs.lemmas.Iterator.{YieldsList-from_slice}
use Rattle.std.proofs.lemmas.Iterator.Search.{all_from_yields_List}
use Rattle.diagram.proofs.sound.below.Goals as goal

pub returns : goal.returns
returns c =
    all_from_yields_List (λ b. ltb b c.args.bound) _ _ c.all.result c.all.ensures.ran (YieldsList-from_slice c.args.bytes.now c.iter.ensures.rest) (λ x r q k. search rules)
