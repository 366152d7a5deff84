-- `Words::put_block` meets its contract: one word where no fixed contact leads on, else two blocks over one contact less.
use native.Mathlib.Omega.{arith}
use Prim.Native.Nat.{ℕ, suc, ◌+◌, ◌-◌, ◌^◌}
use mathlib.Core.Path.{◌≡◌, ap, ◌∙◌}
use Rattle.truths.proofs.Blocks.{Split, splits, block-filled, block-halves, block-again}
use Rattle.truths.proofs.tables.Words.+put_block.Goals.{In-Some}
use Rattle.truths.proofs.tables.Words.+put_block.Goals as goal

split : (t : ℕ) (c : In-Some t) → Split c.args.left c.in-Some.half
split t c = splits c.args.self.now.drawing.limited.contacts.1 c.requires.0 c.requires.1 c.in-Some.ensures

pub returns-in_default : goal.returns-in_default
returns-in_default t c =
    let d = c.args.self.now.drawing.parts in
    rw (c.fill.ensures.after (λ y e. e), c.requires.2)
    (block-filled d.contacts d.nodes.now c.args.v c.args.left c.args.self.now.values.now c.args.self.now.worked c.in_default.ensures)

pub split_at_mut-first-requires : goal.split_at_mut-first-requires
split_at_mut-first-requires t c =
    let s = split t (goal.at.split_at_mut-first-requires t c).In-Some in
    omega (arith, s.size, s.twice, c.requires.2)

pub put_block-requires-else-half-left-2 : goal.put_block-requires-else-half-left-2
put_block-requires-else-half-left-2 t c =
    let s = split t (goal.at.put_block-requires-else-half-left-2 t c).In-Some in
    let n = c.args.self.now.drawing.parts.contacts in
    let half = c.in-Some.half in
    let f = c.in-Some.ensures in
    let next : n - 6 - half ≡ n - 7 - half + 1 = omega (arith, f.fixed) in
    let last : half ≡ c.args.left - 1 = omega (arith, s.fewer) in (
      omega (arith, c.decreases, s.fewer),
      (
        omega (arith, s.fewer, c.requires.0),
        rw next f.to-one.beyond,
        rw last (omega (arith, c.split_at_mut-first.ensures.back_len, s.size, s.twice, c.requires.2)),
      ),
    )

pub returns-then-half-left : goal.returns-then-half-left
returns-then-half-left t c =
    let s = split t (goal.at.returns-then-half-left t c).In-Some in
    let d = c.args.self.now.drawing.parts in
    let p : c.args.left ≡ suc (c.args.left - 1) = omega (arith, s.fewer) in
    rw (c.copy.ensures, p)
    (block-again d.contacts d.nodes.now c.args.v (c.args.left - 1) c.put_block.new.block
    (c.put_block.auto.block ∙ c.split_at_mut-first.ensures.front_len ∙ s.size) c.put_block.ensures)

pub returns-else-half-left : goal.returns-else-half-left
returns-else-half-left t c =
    let s = split t (goal.at.returns-else-half-left t c).In-Some in
    let d = c.args.self.now.drawing.parts in
    let half = c.in-Some.half in
    let p : c.args.left ≡ suc half = omega (arith, s.fewer) in
    let last : c.args.left - 1 ≡ half = omega arith in
    rw p
    (block-halves d.contacts d.nodes.now c.args.v half c.put_block-else-half-left.new.block c.put_block-else-half-left-2.new.block
    (c.put_block-else-half-left.auto.block ∙ c.split_at_mut-first.ensures.front_len ∙ s.size ∙ ap (λ (k : ℕ). 2 ^ k) last) _ _ c.in-Some.ensures
    c.put_block-else-half-left.ensures c.put_block-else-half-left-2.ensures)
