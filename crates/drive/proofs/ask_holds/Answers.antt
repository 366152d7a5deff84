-- `ask_holds` meets its contract. The loop's invariant: each hold passed is in its place, and the last of them has this rank.
use borrow.Author.Tests.{eqb-true, eq-eqb}
use native.Mathlib.Omega.{arith}
use Prim.Native.Nat.{◌/◌, ◌%◌, ◌<◌}
use mathlib.Core.Path.{◌≡◌, refl, sym, ◌∙◌}
use lib.ListN.{length}
use Rattle.std.proofs.Common.{rules}
use Rattle.fields.proofs.Bounded.{all_none}
use Rattle.netlist.specs.Netlist.{hold_at}
use Rattle.netlist.proofs.Chunks.{hold-chunk}
use Rattle.drive.specs.Questions.{are_ordered}
use Rattle.drive.proofs.Tests.{disordered, one_more, rank-next}
use Rattle.drive.proofs.ask_holds.Goals.{After-from-hold}
use Rattle.drive.proofs.ask_holds.Goals as goal

pub returns-then-not-is_empty : goal.returns-then-not-is_empty
unfolding are_ordered
returns-then-not-is_empty c = search rules

pub loop-bytes-init : goal.loop-bytes-init
loop-bytes-init c = record { rank = refl; passed = all_none _ }

within : (c : After-from-hold) → c.loop-bytes.bytes-index < length c.args.holds.now / 3
within c = omega (arith, c.as_chunks.ensures.front_len)

hold : (c : After-from-hold) → c.from-hold.result ≡ hold_at c.args.holds.now c.loop-bytes.bytes-index
hold c = c.from-hold.ensures ∙ hold-chunk _ _ c.as_chunks.ensures.front (within c)

pub returns-then-not-is_hold : goal.returns-then-not-is_hold
returns-then-not-is_hold c =
    let here = (goal.at.returns-then-not-is_hold c).After-from-hold in
    disordered _ _ _ _ c.loop-bytes.invariant.rank (hold here) (within here) (sym c.is_hold.ensures ∙ c.if-not-is_hold.true)

pub loop-bytes-preserved : goal.loop-bytes-preserved
loop-bytes-preserved c =
    let a = c.args in
    let inv = c.loop-bytes.invariant in
    let here = hold (goal.at.loop-bytes-preserved c).After-from-hold in
    record {
      rank = c.rank-last.ensures ∙ rank-next a.first a.lines a.holds.now c.loop-bytes.bytes-index inv.rank here;
      passed = one_more _ _ _ _ inv.rank here inv.passed (sym c.is_hold.ensures ∙ c.if-not-is_hold.false);
    }

pub returns : goal.returns
unfolding are_ordered
returns c =
    let done : c.loop-bytes.bytes-index ≡ length c.args.holds.now / 3 = omega (arith, c.as_chunks.ensures.front_len) in
    let none = eqb-true _ _ (sym c.is_empty.ensures ∙ c.if-not-is_empty.false) in
    let whole : length c.args.holds.now % 3 ≡ 0 = sym c.as_chunks.ensures.back_len ∙ none in
    simp (eq-eqb _ _ whole, rw done at c.loop-bytes.invariant.passed)
