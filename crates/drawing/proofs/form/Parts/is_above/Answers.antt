-- `Parts::is_above` meets its contract: a constant, a number past the nodes, a node by its level.
use Prim.Native.Nat.{ℕ}
use mathlib.Core.Path.{ap, ◌∙◌}
use mathlib.Core.List.{List}
use borrow.Author.Tests.{le-ltb}
use lib.Dec.{ltb}
use lib.ListN.{get_or}
use Rattle.drawing.proofs.Forms.{above-constant, above-unlisted, above_listed}
use Rattle.drawing.proofs.form.Parts.is_above.Goals as goal

pub returns-then-number-lt2 : goal.returns-then-number-lt2
returns-then-number-lt2 c = above-constant _ _ _ c.if-number-lt2.true

pub returns-then-i-node_count : goal.returns-then-i-node_count
returns-then-i-node_count c =
    ap (λ (node : List ℕ). ltb c.args.level (get_or node 0 0)) c.node.ensures
    ∙ above_listed _ _ _ c.if-number-lt2.false (rw c.node_count.ensures at c.if-i-node_count.true)

pub returns-else-i-node_count : goal.returns-else-i-node_count
returns-else-i-node_count c =
    le-ltb _ _ c.if-i-node_count.false
    ∙ above-unlisted _ _ _ c.if-number-lt2.false (rw c.node_count.ensures at c.if-i-node_count.false)
