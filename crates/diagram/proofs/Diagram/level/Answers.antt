-- `Diagram::level` meets its contract: the limits keep a level's edges within the array.
use native.Mathlib.Omega.{arith}
use Prim.Native.Nat.{ℕ, ◌+◌, ◌*◌, ◌-◌}
use mathlib.Core.Path.{◌≡◌, refl, ap, ◌∙◌}
use borrow.Rule.Slice.PartMut.{mid_of}
use lib.ListN.{get_or}
use Rattle.diagram.specs.Diagram.{width, edge_at}
use Rattle.diagram.proofs.Asked.{width_is}
use Rattle.diagram.proofs.Bytes.{part-is}
use Rattle.diagram.proofs.Diagram.level.Goals as goal

pub overflow_mul-result : goal.overflow_mul-result
overflow_mul-result c = omega (arith, width_is c.args.self.now c.args.level c.requires.0)

pub overflow_add-result : goal.overflow_add-result
overflow_add-result c = omega (arith, width_is c.args.self.now c.args.level c.requires.0)

pub slice_bounds-result-end : goal.slice_bounds-result-end
slice_bounds-result-end c = omega (arith, width_is c.args.self.now c.args.level c.requires.0)

pub returns : goal.returns
unfolding edge_at
returns c =
    let a = c.args in
    let d = a.self.now in
    let e = width_is d a.level c.requires.0 in
    let k : a.level * 16 + 2 * get_or d.widths a.level 0 - a.level * 16 ≡ 2 * width d a.level = omega (arith, e) in
    ap (λ (n : ℕ). mid_of (a.level * 16) n d.edges) k
    ∙ part-is d.edges (a.level * 16) (2 * width d a.level) (edge_at d a.level) (omega (arith, e)) (λ i h. refl)
