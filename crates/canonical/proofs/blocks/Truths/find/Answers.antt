-- `Truths::find` meets its contract: each block that the search comes to is one of those listed.
use Rattle.std.proofs.Common.{rules}
use Rattle.std.proofs.lemmas.Iterator.{YieldsList-from_slice}
use Rattle.std.proofs.lemmas.Iterator.Adapters.{serves_from_places}
use Rattle.canonical.proofs.blocks.Truths.find.Goals as goal

pub position-requires-clause-callable : goal.position-requires-clause-callable
position-requires-clause-callable c =
    serves_from_places (YieldsList-from_slice c.args.starts.now (cc)) (λ x q k. search rules) (λ x k h e. search rules)
