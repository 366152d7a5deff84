-- `inputs::search_in` meets its contract. The loop's invariant: no input below base betrays.
use borrow.Author.Count.{below_none}
use Prim.Native.Nat.{ℕ, ◌+◌, ◌^◌, ◌≤◌, ◌<◌}
use native.Mathlib.Omega.{arith}
use mathlib.Core.Path.{◌≡◌}
use mathlib.Core.Bool.{false}
use mathlib.Core.List.{List, map}
use lib.ListN.{take}
use lib.Pow.{pow_mono}
use Rattle.std.proofs.lemmas.List.{take-map}
use Rattle.diagram.specs.Diagram.{bit}
use Rattle.faults.specs.Betrayal.{betrays}
use Rattle.bits.specs.Inner.Bits.{bit_of, bits_of}
use Rattle.netlist.specs.Netlist.{net_of}
use Rattle.batches.specs.declared.batch.TwoBatches.{TwoBatches}
use Rattle.search.proofs.FoundLemmas.{nowhere, clear-all, found}
use Rattle.search.proofs.Masks.{mask-tells}
use Rattle.search.proofs.inputs.search_in.Goals.{After-agreeing-masks}
use Rattle.search.proofs.inputs.search_in.Goals as goal

-- What the lines' batches are in the words that are lent.
lent-are : (p : TwoBatches → ℕ) (lines : ℕ) (ws : List TwoBatches) (vs : ℕ → List ℕ) →
    ((k : ℕ) → k < 64 → bits_of k (take lines (map p ws)) ≡ vs k) → (k : ℕ) → k < 64 → bits_of k (map p (take lines ws)) ≡ vs k
lent-are p lines ws vs are k l = rw (← take-map p lines ws) (are k l)

pub loop-base-init : goal.loop-base-init
loop-base-init c =
    let b = c.args.board in
    let few : 2 ^ b.contacts ≤ 4096 = pow_mono b.few in record {
      aligned = omega arith;
      last = omega arith;
      few = few;
      none = below_none (λ (x : ℕ). betrays (net_of b.contacts b.gates.now b.pairs.now) c.args.hold x ≡ false);
    }

pub work_batches-requires-clause-base : goal.work_batches-requires-clause-base
work_batches-requires-clause-base c =
    (c.loop-base.invariant.aligned, omega (arith, c.loop-base.invariant.last, c.loop-base.invariant.few))

-- The masks' bits tell which inputs from base on betray, and which of the 64 after those.
module _ (c : After-agreeing-masks) where
  abbrev lines : ℕ
  lines = c.line_count-lines.result

  abbrev seen : ℕ → ℕ
  seen a = bit (betrays (net_of c.args.board.contacts c.args.board.gates.now c.args.board.pairs.now) c.args.hold a)

  low-tells : (k : ℕ) → k < 64 → bit_of k c.agreeing-masks.result.first ≡ seen (c.loop-base.base + k)
  low-tells =
      mask-tells _ _ _ c.args.hold c.loop-base.base _ _ c.agreeing-masks.ensures.first
      (lent-are (λ w. w.first) lines c.work_batches.new.batches _ (rw c.line_count-lines.ensures c.work_batches.ensures.first))

  high-tells : (k : ℕ) → k < 64 → bit_of k c.agreeing-masks.result.second ≡ seen (c.loop-base.base + 64 + k)
  high-tells =
      mask-tells _ _ _ c.args.hold (c.loop-base.base + 64) _ _ c.agreeing-masks.ensures.second
      (lent-are (λ w. w.second) lines c.work_batches.new.batches _ (rw c.line_count-lines.ensures c.work_batches.ensures.second))

  -- None of the 128 inputs of a pass whose masks are clear betrays.
  passed : c.agreeing-masks.result.first ≡ 0 → c.agreeing-masks.result.second ≡ 0 → (a : ℕ) → a < c.loop-base.base + 128 →
      betrays (net_of c.args.board.contacts c.args.board.gates.now c.args.board.pairs.now) c.args.hold a ≡ false
  passed low high a l =
      clear-all _ _ (c.loop-base.base + 64) c.agreeing-masks.result.second high-tells
      (clear-all _ _ c.loop-base.base c.agreeing-masks.result.first low-tells c.loop-base.invariant.none low) high a (omega arith)

pub returns-then-masks-ne0 : goal.returns-then-masks-ne0
returns-then-masks-ne0 c =
    let lowest = c.lowest_bit.ensures in
    found _ _ c.loop-base.base c.agreeing-masks.result.first (low-tells (goal.at.returns-then-masks-ne0 c).After-agreeing-masks)
    c.loop-base.invariant.none c.lowest_bit.result lowest.0 lowest.1 lowest.2

pub returns-then-masks-ne0-2 : goal.returns-then-masks-ne0-2
returns-then-masks-ne0-2 c =
    let at = (goal.at.returns-then-masks-ne0-2 c).After-agreeing-masks in
    let lowest = c.lowest_bit-then-masks-ne0-2.ensures in
    found _ _ (c.loop-base.base + 64) c.agreeing-masks.result.second (high-tells at)
    (clear-all _ _ c.loop-base.base c.agreeing-masks.result.first (low-tells at) c.loop-base.invariant.none c.if-masks-ne0.false)
    c.lowest_bit-then-masks-ne0-2.result lowest.0 lowest.1 lowest.2

pub loop-base-preserved : goal.loop-base-preserved
loop-base-preserved c =
    let here = c.loop-base.invariant in record {
      aligned = omega (arith, here.aligned);
      last = here.last;
      few = here.few;
      none = passed (goal.at.loop-base-preserved c).After-agreeing-masks c.if-masks-ne0.false c.if-masks-ne0-2.false;
    }

pub returns : goal.returns
returns c = nowhere _ _ (λ a l. c.loop-base.invariant.none a (omega (arith, c.loop-base-test, c.loop-base.invariant.last)))

pub returns-else-masks-ne0-2 : goal.returns-else-masks-ne0-2
returns-else-masks-ne0-2 c =
    nowhere _ _ (λ a l.
    passed (goal.at.returns-else-masks-ne0-2 c).After-agreeing-masks c.if-masks-ne0.false c.if-masks-ne0-2.false a
    (omega (arith, c.loop-base.invariant.last)))
