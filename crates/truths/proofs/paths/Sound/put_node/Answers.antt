-- `Sound::put_node` meets its contract: a node of another level leaves the words, one of this level follows its edges' words.
use native.Mathlib.Omega.{arith}
use Prim.Native.Nat.{ℕ, ◌-◌}
use mathlib.Core.Path.{◌≡◌, sym, ap, ◌∙◌}
use mathlib.Core.Bool.{true, false}
use mathlib.Core.List.{List}
use lib.ListN.{get_or}
use Rattle.diagram.specs.Diagram.{input_of}
use Rattle.drawing.specs.Drawing.{parted, level_in}
use Rattle.truths.specs.Inner.Words.{Ready}
use Rattle.truths.proofs.Outputs.{ready_for}
use Rattle.truths.proofs.Words.{edge-from, new_word, level-other, level-own}
use Rattle.truths.proofs.paths.Sound.put_node.Goals.{After-node}
use Rattle.truths.proofs.paths.Sound.put_node.Goals as goal

ready : (c : After-node) → Ready c.args.self.parts.contacts c.args.self.parts.nodes.now
ready c = ready_for (parted c.args.self.parts) c.args.self.limited

pub returns-then-own-level : goal.returns-then-own-level
returns-then-own-level c =
    let a = c.args in
    level-other _ _ (ready (goal.at.returns-then-own-level c).After-node) a.level a.values.now a.i
    (λ e. c.if-own-level.true (ap (λ (node : List ℕ). get_or node 0 0) c.node.ensures ∙ e)) c.requires.5

pub bounds-values-zero : goal.bounds-values-zero
bounds-values-zero c =
    omega (arith, (edge-from _ _ (ready (goal.at.bounds-values-zero c).After-node) c.args.i false c.requires.4).number, c.requires.0, ap (λ (node : List ℕ). get_or node 1 0) c.node.ensures)

pub bounds-values-one : goal.bounds-values-one
bounds-values-one c =
    omega (arith, (edge-from _ _ (ready (goal.at.bounds-values-one c).After-node) c.args.i true c.requires.4).number, c.requires.0, ap (λ (node : List ℕ). get_or node 2 0) c.node.ensures)

pub returns : goal.returns
returns c =
    let a = c.args in
    let pre = c.requires in
    let values = a.values.now in
    let r = ready (goal.at.returns c).After-node in
    let own : level_in a.self.parts.nodes.now a.i ≡ a.level = sym (ap (λ (node : List ℕ). get_or node 0 0) c.node.ensures) ∙ c.if-own-level.false in
    let mixed = rw c.node.ensures at c.mix.ensures in
    level-own _ _ r _ values a.i _ pre.0 pre.4 own
    (new_word _ _ r a.i a.level values _ pre.4 own pre.2 (λ k h. mixed k (input_of k (a.self.parts.contacts - 1 - a.level)) h (pre.3.bits k h)) pre.5.above)
    pre.5
