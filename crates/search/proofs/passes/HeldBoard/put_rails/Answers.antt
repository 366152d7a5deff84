-- `passes::HeldBoard::put_rails` meets its contract. The loop's invariant: at each bit the lines below contact i's rails obey the run rule.
use Prim.Native.Nat.{ℕ, ◌+◌, ◌*◌}
use native.Mathlib.Omega.{arith}
use mathlib.Core.Path.{◌≡◌, refl, ap, ◌∙◌}
use lib.ListN.{length-map}
use Rattle.diagram.specs.Diagram.{input_of}
use Rattle.simulation.specs.Run.{work_out}
use Rattle.rules.specs.Code.{code_rails}
use Rattle.batches.specs.declared.batch.TwoBatches.{TwoBatches}
use Rattle.batches.specs.Inner.Batches.{firsts, seconds}
use Rattle.search.proofs.Halves.{shown-half, half-set}
use Rattle.search.proofs.Lines.{rails-more}
use Rattle.search.proofs.passes.HeldBoard.put_rails.Goals as goal

pub loop-i-init : goal.loop-i-init
unfolding code_rails work_out
loop-i-init c = record { first = λ k l. refl; second = λ k l. refl }

pub loop-i-preserved : goal.loop-i-preserved
loop-i-preserved c =
    let h = c.args.self.hold in
    let ws = c.loop-i.batches in
    let i = c.loop-i.i in
    let low = 2 + 2 * i in
    let (on, off) = c.rail_batches.result in
    let t = c.show.result in
    let f = c.show-in-loop-i.result in
    let held = c.held_line-held in
    let level = c.same_batches-level in
    let rails = c.rail_batches.ensures in
    let shown : (p : TwoBatches → ℕ) → _ = λ p. ap p c.show.ensures ∙ shown-half p held.result level.result low c.rail_batches.result.0 in
    let hidden : (p : TwoBatches → ℕ) → _ =
    λ p. ap p c.show-in-loop-i.ensures ∙ shown-half p held.result level.result (low + 1) c.rail_batches.result.1 in record {
      first = λ k l.
          rw (half-set (λ (w : TwoBatches). w.first) ws low (low + 1) t f)
          (rails-more k h (firsts ws) _ (input_of (c.args.base + k)) i _ _ _ _ _ _ (omega (arith, length-map ws (λ (w : TwoBatches). w.first)))
          held.ensures (level.ensures.first k l) (rails.on_first k l) (rails.off_first k l)
          (shown (λ w. w.first)) (hidden (λ w. w.first)) (c.loop-i.invariant.first k l));
      second = λ k l.
          rw (half-set (λ (w : TwoBatches). w.second) ws low (low + 1) t f)
          (rails-more k h (seconds ws) _ (input_of (c.args.base + 64 + k)) i _ _ _ _ _ _ (omega (arith, length-map ws (λ (w : TwoBatches). w.second)))
          held.ensures (level.ensures.second k l) (rails.on_second k l) (rails.off_second k l)
          (shown (λ w. w.second)) (hidden (λ w. w.second)) (c.loop-i.invariant.second k l));
    }

pub returns-clause-first : goal.returns-clause-first
returns-clause-first c =
    let e : c.loop-i.i ≡ c.args.self.board.contacts = omega arith in
    λ k l. rw e at (c.loop-i.invariant.first k l)

pub returns-clause-second : goal.returns-clause-second
returns-clause-second c =
    let e : c.loop-i.i ≡ c.args.self.board.contacts = omega arith in
    λ k l. rw e at (c.loop-i.invariant.second k l)
