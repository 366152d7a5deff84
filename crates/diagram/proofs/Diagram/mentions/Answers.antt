-- `Diagram::mentions` meets its contract: level 0 is mentioned by the output list, each next one by the edges of the one before.
use native.Mathlib.Omega.{arith}
use Prim.Native.Nat.{ℕ, suc, ◌-◌}
use mathlib.Core.Path.{◌≡◌, sym, ap, ◌∙◌}
use lib.ListN.{get_or}
use Rattle.fields.specs.Bounded.{listed}
use Rattle.diagram.specs.Diagram.{root}
use Rattle.diagram.specs.Questions.{mention, mentions}
use Rattle.diagram.proofs.Bytes.{part-is}
use Rattle.diagram.proofs.Diagram.mentions.Goals as goal

pub returns-then-level-eq0 : goal.returns-then-level-eq0
unfolding mention mentions root
returns-then-level-eq0 c =
    let d = c.args.self.now in
    rw c.if-level-eq0.true (part-is d.roots 0 d.outputs (root d) (omega arith) (λ i h. ap (λ (k : ℕ). get_or d.roots k 0) (omega arith)))

pub returns-else-level-eq0 : goal.returns-else-level-eq0
unfolding mention mentions
returns-else-level-eq0 c =
    let d = c.args.self.now in
    let e : c.args.level ≡ suc (c.args.level - 1) = omega arith in
    c.level.ensures ∙ ap (λ (l : ℕ). listed (mention d l) (mentions d l) 0) (sym e)
