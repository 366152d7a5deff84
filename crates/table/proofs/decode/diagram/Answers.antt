-- `decode::diagram` meets its contract: a list that is copied over zeros is the list filled up with them.
use Prim.Native.Nat.{ℕ}
use mathlib.Core.Path.{ap, ◌∙◌}
use mathlib.Core.List.{List}
use lib.ListN.{length, get_or}
use Rattle.table.proofs.Decoded.{diagram-is}
use Rattle.table.proofs.Padded.{pasted}
use Rattle.table.proofs.decode.diagram.Goals as goal

pub returns : goal.returns
returns c =
    let outputs = c.nth-outputs.ensures in
    let levels = c.lay_levels.ensures in
    diagram-is _ (c.byte.ensures ∙ ap (λ (l : List ℕ). get_or l 0 0) c.nth.ensures) (ap length outputs)
    (pasted 8 c.put.ensures outputs) (levels.widths_after, levels.edges_after)
