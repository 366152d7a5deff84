-- `Product::terms` meets its contract. The loop's invariant: the terms of the middle nodes passed are made and their lines listed.
use native.Mathlib.Omega.{arith}
use lib.ListN.{get_or}
use native.Mathlib.Numerals.{add-one}
use mathlib.Core.Path.{◌≡◌, sym, ap, ◌∙◌}
use mathlib.Core.List.{[], ◌∷◌, ◌++◌}
use Rattle.rules.specs.declared.Entry.{Entry}
use Rattle.rules.specs.Blocks.{lines_in}
use Rattle.products.proofs.Terms.{turned_none, turned_more, turned-room, no-line}
use Rattle.products.proofs.Listing.{passed-next, passed-last}
use Rattle.products.proofs.product.Product.terms.Goals.{in-Line, in_default}
use Rattle.products.proofs.product.Product.terms.Goals as goal

pub loop-w-init : goal.loop-w-init
loop-w-init c = record { w = 0; rest = c.requires.listed; turned = rw c.new-lines.ensures (turned_none _ _ _ _) }

pub offset_bounds-self-w : goal.offset_bounds-self-w
offset_bounds-self-w c =
    let next = passed-next _ _ c.loop-w-test.true c.loop-w.invariant in
    omega (arith, next.below)

pub bounds-self-w : goal.bounds-self-w
bounds-self-w c =
    let next = passed-next _ _ c.loop-w-test.true c.loop-w.invariant in
    omega (arith, next.below)

pub offset_bounds-self-w-in-loop-w : goal.offset_bounds-self-w-in-loop-w
offset_bounds-self-w-in-loop-w c =
    let next = passed-next _ _ c.loop-w-test.true c.loop-w.invariant in
    omega (arith, next.below)

pub bounds-self-w-in-loop-w : goal.bounds-self-w-in-loop-w
bounds-self-w-in-loop-w c =
    let next = passed-next _ _ c.loop-w-test.true c.loop-w.invariant in
    omega (arith, next.below)

pub term-requires : goal.term-requires
term-requires c =
    let next = passed-next _ _ c.loop-w-test.true c.loop-w.invariant in
    turned-room next.turned _ c.requires.room_for next.below

pub push-requires : goal.push-requires
push-requires c =
    let next = passed-next _ _ c.loop-w-test.true c.loop-w.invariant in
    (omega arith, omega (arith, next.below, next.turned.few))

pub loop-w-preserved : goal.loop-w-preserved
loop-w-preserved c =
    let next = passed-next _ _ c.loop-w-test.true c.loop-w.invariant in
    let added : c.match-term.lines ≡ c.loop-w.lines ++ lines_in (c.term.result ∷ []) =
    elim c.match-term.branch [ in-Line w ↦ w.lines-is ∙ w.push.ensures ∙ ap (λ (e : Entry). c.loop-w.lines ++ lines_in (e ∷ [])) (sym w.in-Line.is) | in_default w ↦ w.lines-is ∙ no-line _ _ w.in_default.not-Line ] in
    record { w = _; rest = rw (← add-one (get_or c.args.nodes.now c.loop-w.w-index 0)) at next.rest; turned = turned_more _ _ _ _ next.turned c.term.ensures added }

pub returns : goal.returns
returns c =
    let all = passed-last c.loop-w.w-index c.args.nodes.now (omega arith) c.loop-w.invariant in
    record { grown = all.written; lines = sym all.found }
