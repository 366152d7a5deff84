-- A walk over lines and holds: what each line has, and which holds it awaits then.
use native.Mathlib.Decide.{dec_lt}
use native.Mathlib.Omega.{arith}
use Prim.Native.Nat.{ℕ, zero, suc, ◌+◌, ◌*◌, ◌-◌, ◌/◌, ◌≤◌, ◌<◌}
use mathlib.Core.Path.{◌≡◌, refl, ap, ap₂, ◌∙◌}
use mathlib.Core.Bool.{Bool, cond}
use mathlib.Core.List.{List}
use mathlib.Core.Logic.{by_cases}
use borrow.Author.Tests.{ne_eqb}
use lib.ListN.{length, get_or, set}
use Rattle.std.specs.Prelude.{Option}
use Rattle.std.specs.Option.{unwrap_or}
use Rattle.netlist.specs.declared.Gate.{Gate}
use Rattle.netlist.specs.Netlist.{gate_at, hold_at, holds_of}
use Rattle.drive.specs.Questions.{rank_of}
use Rattle.simulation.specs.Run.{gate_of, held}
use Rattle.simulation.specs.Service.{read_back}
use Rattle.evaluation.specs.declared.board.Board.{Board}
use Rattle.evaluation.specs.declared.ranks.Next.{Next}
use Rattle.evaluation.specs.Inner.Walk.{Awaits, Looks, Walks, PinsFree, first_of, end_of, worked}
use Rattle.evaluation.proofs.Looking.{held_none, in_order, ahead-at}
use Rattle.evaluation.proofs.Putting.{none-put, gate-put}

module _ (board : Board) where
  abbrev holds : List ℕ
  holds = board.holds.now

  -- A gate with its line's hold, and with its pins' holds too.
  module _ (lines : List ℕ) (room : end_of board ≤ length lines) (line g : ℕ) (m : Gate) (at : line ≡ first_of board + g)
      (within : g < length board.gates.now / 5) (q : m ≡ gate_at board.gates.now g) where
    small : line < 65536
    small = let ok = board.ready in omega (arith, ok.few, ok.many)

    pub gate-held : (a b made v : ℕ) → a ≡ held (holds_of holds) line 1 (get_or lines m.left 0) →
        b ≡ held (holds_of holds) line 2 (get_or lines m.right 0) → made ≡ gate_of m.kind (read_back a) (read_back b) → v ≡ held (holds_of holds) line 0 made →
        set lines line v ≡ worked board line (line + 1) lines
    gate-held a b made v ea eb e s =
        let after : 2 ≤ line = omega arith in
        let rails = board.rails.now in
        let gates = board.gates.now in
        gate-put (holds_of holds) rails gates line after lines line v (omega arith) (omega arith)
        (none-put (holds_of holds) rails gates line after lines (omega arith)) g at within board.ready.wired q
        (s ∙ ap (held (holds_of holds) line 0) (e ∙ ap₂ (λ (a b : ℕ). gate_of m.kind (read_back a) (read_back b)) ea eb))

    pub gate-pinned : (on-left on-right on-line : Option ℕ) {left right made shown : ℕ} {between next-pin next : Next} →
        Looks holds (65537 + 2 * line) on-left between → left ≡ unwrap_or on-left (get_or lines m.left 0) →
        Looks holds (65538 + 2 * line) on-right next-pin → right ≡ unwrap_or on-right (get_or lines m.right 0) →
        made ≡ gate_of m.kind (read_back left) (read_back right) → Looks holds line on-line next → shown ≡ unwrap_or on-line made →
        Walks holds (line + 1) (record { line = next; pin = next-pin }) × (set lines line shown ≡ worked board line (line + 1) lines)
    gate-pinned on-left on-right on-line {left} {right} {made} {shown} l a r b e s d =
        let next : 65538 + 2 * line + 1 ≡ 65537 + 2 * (line + 1) = omega arith in
        let one : 65537 + 2 * line ≡ 65536 + 2 * line + 1 = omega arith in
        let two : 65538 + 2 * line ≡ 65536 + 2 * line + 2 = omega arith in (
          record { lines = s.awaits; pins = rw next at r.awaits },
          gate-held left right made shown (a ∙ l.is-held line 1 _ one small (omega arith))
              (b ∙ r.is-held line 2 _ two small (omega arith)) e (d ∙ s.is-held line 0 made refl small (omega arith)),
        )

  -- Up to the next held pin's gate no pin is held.
  module _ (at stop : ℕ) (n : Next) (w : Awaits holds (65537 + 2 * at) n) (bound : stop ≤ (n.rank - 65537) / 2) where
    pub awaits-on : at ≤ stop → 65537 ≤ n.rank → Awaits holds (65537 + 2 * stop) n
    awaits-on low h =
        let is = w.is in
        record {
          is = is;
          ahead = ahead-at holds (in_order board) (65537 + 2 * stop) n.at (λ k m h. omega (arith, w.ahead.behind k m h)) (omega arith);
        }

    pub pins-free : at ≤ stop → 65537 ≤ n.rank → PinsFree holds at stop
    unfolding holds_of
    pins-free low high x zero v one two l h = absurd (omega arith)
    pins-free low high x (suc s) v one two l h =
        held_none (hold_at holds) x (suc s) v (length holds / 3) 0 (λ k _ m e.
        let f : rank_of (hold_at holds k) ≡ 65536 + 2 * x + suc s =
        e ∙ ap (λ (b : Bool). cond b x (65536 + 2 * x + suc s)) (ne_eqb (suc s) 0 (λ z. omega arith)) in
        by_cases (dec_lt k n.at) (λ p. let z = w.ahead.behind k p (omega arith) in omega arith)
        (λ p. let z = (awaits-on low high).ahead.from k (omega arith) (omega arith) in omega arith))
