-- `sound::in_turn` meets its contract. The loop's invariant: the mentions passed are in turn, and `next` is what they bring.
use borrow.Author.Tests.{le-leb}
use native.Mathlib.Omega.{arith}
use mathlib.Core.Path.{sym}
use lib.ListN.{length}
use Rattle.fields.proofs.Bounded.{all_none, all_more}
use Rattle.diagram.specs.Questions.{brought}
use Rattle.diagram.proofs.Turns.{is_turn, brought-none, brought-more, turn-broken}
use Rattle.diagram.proofs.sound.in_turn.Invariants.{byte_at}
use Rattle.diagram.proofs.sound.in_turn.Goals as goal

pub loop-byte-init : goal.loop-byte-init
loop-byte-init c = (omega arith, sym (brought-none _), all_none _)

pub returns-then-next-node : goal.returns-then-next-node
returns-then-next-node c =
    let a = c.args in
    let loop = c.loop-byte in
    turn-broken (byte_at a.bytes.now) (length a.bytes.now) a.nodes loop.byte-index c.loop-byte-test.true (omega arith)

pub loop-byte-preserved : goal.loop-byte-preserved
loop-byte-preserved c =
    let loop = c.loop-byte in
    let f = byte_at c.args.bytes.now in
    let byte = c.type_inv.bytes loop.byte-index in
    let e = brought-more f loop.byte-index in (
      omega arith,
      cc,
      all_more (is_turn f) loop.byte-index loop.invariant.2 (le-leb (f loop.byte-index) (brought f loop.byte-index) (omega arith)),
    )
