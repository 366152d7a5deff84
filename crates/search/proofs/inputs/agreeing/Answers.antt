-- `inputs::agreeing` meets its contract. The loop's invariant: at each bit the masks tell whether an output before this one agrees.
use Prim.Native.Nat.{ℕ, ◌/◌, ◌<◌}
use native.Mathlib.Omega.{arith}
use mathlib.Core.Path.{◌≡◌, refl, ap, ◌∙◌}
use lib.ListN.{length}
use Rattle.netlist.proofs.Chunks.{pair-chunk}
use Rattle.fields.specs.Bounded.{any}
use Rattle.netlist.specs.declared.Pair.{Pair}
use Rattle.netlist.specs.Netlist.{pair_at, pairs_of}
use Rattle.netlist.proofs.Lists.{length_pairs}
use Rattle.netlist.proofs.Sound.{PairIn}
use Rattle.wiring.proofs.Tests.{pairs-at}
use Rattle.batches.specs.declared.batch.TwoBatches.{TwoBatches}
use Rattle.batches.specs.Inner.Batches.{at, firsts, seconds}
use Rattle.search.proofs.Agree.{agree-more}
use Rattle.search.proofs.Halves.{half-at}
use Rattle.bits.proofs.Bits.{bit-zero}
use Rattle.search.proofs.inputs.agreeing.Goals.{After-from-pair}
use Rattle.search.proofs.inputs.agreeing.Goals as goal

pub loop-bytes-init : goal.loop-bytes-init
unfolding any
loop-bytes-init c = record { first = λ k l. bit-zero k; second = λ k l. bit-zero k }

-- The bytes name output j, and its lines are in range.
module _ (c : After-from-pair) where
  abbrev j : ℕ
  j = c.loop-bytes.bytes-index

  below : j < length c.args.pairs.now / 4
  below = omega (arith, c.as_chunks.ensures.front_len)

  pair-is : c.from-pair.result ≡ pair_at c.args.pairs.now j
  pair-is = c.from-pair.ensures ∙ pair-chunk _ _ c.as_chunks.ensures.front below

  low : PairIn (length c.args.batches.now) c.from-pair.result
  low = rw pair-is (pairs-at (length c.args.batches.now) c.args.pairs.now c.requires j below)

pub bounds-batches-from : goal.bounds-batches-from
bounds-batches-from c = rw c.from.ensures (low (goal.at.bounds-batches-from c).After-from-pair).on

pub bounds-batches-from-in-loop-bytes : goal.bounds-batches-from-in-loop-bytes
bounds-batches-from-in-loop-bytes c = rw c.from-in-loop-bytes.ensures (low (goal.at.bounds-batches-from-in-loop-bytes c).After-from-pair).off

pub loop-bytes-preserved : goal.loop-bytes-preserved
loop-bytes-preserved c =
    let at-pair = (goal.at.loop-bytes-preserved c).After-from-pair in
    let is = pair-is at-pair in
    let pairs = c.args.pairs.now in
    let ws = c.args.batches.now in
    let on : c.from.result ≡ (pair_at pairs (j at-pair)).on = c.from.ensures ∙ ap (λ (p : Pair). p.on) is in
    let off : c.from-in-loop-bytes.result ≡ (pair_at pairs (j at-pair)).off = c.from-in-loop-bytes.ensures ∙ ap (λ (p : Pair). p.off) is in record {
      first = λ k l.
          agree-more k pairs (firsts ws) (j at-pair) _ _ _ l (below at-pair)
          (ap (λ (i : ℕ). (at ws i).first) on ∙ half-at (λ (w : TwoBatches). w.first) refl ws _)
          (ap (λ (i : ℕ). (at ws i).first) off ∙ half-at (λ (w : TwoBatches). w.first) refl ws _)
          (c.loop-bytes.invariant.first k l);
      second = λ k l.
          agree-more k pairs (seconds ws) (j at-pair) _ _ _ l (below at-pair)
          (ap (λ (i : ℕ). (at ws i).second) on ∙ half-at (λ (w : TwoBatches). w.second) refl ws _)
          (ap (λ (i : ℕ). (at ws i).second) off ∙ half-at (λ (w : TwoBatches). w.second) refl ws _)
          (c.loop-bytes.invariant.second k l);
    }

pub returns-clause-first : goal.returns-clause-first
returns-clause-first c =
    let e : c.loop-bytes.bytes-index ≡ length (pairs_of c.args.pairs.now) =
    omega (arith, c.as_chunks.ensures.front_len, length_pairs c.args.pairs.now) in
    λ k l. rw e at (c.loop-bytes.invariant.first k l)

pub returns-clause-second : goal.returns-clause-second
returns-clause-second c =
    let e : c.loop-bytes.bytes-index ≡ length (pairs_of c.args.pairs.now) =
    omega (arith, c.as_chunks.ensures.front_len, length_pairs c.args.pairs.now) in
    λ k l. rw e at (c.loop-bytes.invariant.second k l)
