-- `Parts::is_sound` meets its contract: the nodes, then the outputs.
use Prim.Native.Nat.{ℕ, ◌+◌}
use mathlib.Core.Path.{◌≡◌, sym, ap, ◌∙◌}
use borrow.Author.Tests.{tests}
use native.Mathlib.Omega.{arith}
use lib.ListN.{length, get_or}
use lib.Dec.{ltb}
use Rattle.std.proofs.Common.{rules}
use Rattle.std.proofs.lemmas.Iterator.{YieldsList-from_range, YieldsList-from_slice}
use Rattle.std.proofs.lemmas.Iterator.Search.{all_from_yields_List}
use Rattle.fields.specs.Bounded.{all}
use Rattle.drawing.specs.Drawing.{node_count, is_node}
use Rattle.drawing.proofs.Forms.{all-range, all-listed, nodes-wrong, nodes-right}
use Rattle.drawing.proofs.form.Parts.is_sound.Goals.{After-all}
use Rattle.drawing.proofs.form.Parts.is_sound.Goals as goal

nodes : (c : After-all) → let p = c.args.self in c.all.result ≡ all (node_count p.nodes.now) (is_node p.contacts p.nodes.now)
nodes c =
    let p = c.args.self in
    let test = is_node p.contacts p.nodes.now in
    let n = c.node_count-count.result in
    all_from_yields_List test _ _ _ c.all.ensures.ran (YieldsList-from_range 0 n n (cc) (omega arith)) (λ x b q k. search (rules, tests))
    ∙ all-range test n ∙ ap (λ (n : ℕ). all n test) c.node_count-count.ensures

pub returns-then-all : goal.returns-then-all
returns-then-all c =
    let p = c.args.self in
    let n = 2 + c.node_count-count.result in
    nodes-right _ (sym (nodes (goal.at.returns-then-all c).After-all) ∙ c.if-all.true)
    (all_from_yields_List (λ v. ltb v n) _ _ _ c.all-then-all.ensures.ran (YieldsList-from_slice p.outputs.now (cc)) (λ x b q k. search (rules, tests))
    ∙ all-listed (λ v. ltb v n) p.outputs.now
    ∙ ap (λ (m : ℕ). all (length p.outputs.now) (λ k. ltb (get_or p.outputs.now k 0) (2 + m))) c.node_count-count.ensures)

pub returns-else-all : goal.returns-else-all
returns-else-all c = c.if-all.false ∙ nodes-wrong _ (sym (nodes (goal.at.returns-else-all c).After-all) ∙ c.if-all.false)
