-- `decode::levels` meets its contract.
use Prim.Native.Nat.{ℕ}
use mathlib.Core.Path.{ap, ◌∙◌}
use mathlib.Core.List.{List}
use lib.ListN.{get_or, replicate}
use Rattle.table.specs.Table.{diagram_of}
use Rattle.table.proofs.decode.levels.Goals as goal

pub returns : goal.returns
unfolding diagram_of
returns c =
    let contacts = c.byte.ensures ∙ ap (λ (l : List ℕ). get_or l 0 0) c.nth.ensures in
    let levels = c.lay_levels.ensures in
    λ i. record { contacts = contacts i; outputs = 0; roots = replicate 8 0; widths = levels.widths_after i; edges = levels.edges_after i }
