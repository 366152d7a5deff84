-- One line more of a buffer, a rail's or a gate's, with whatever is held of it.
use native.Mathlib.Omega.{arith}
use Prim.Native.Nat.{ℕ, ◌+◌, ◌-◌, ◌/◌, ◌≤◌, ◌<◌}
use mathlib.Core.Path.{◌≡◌, sym, ap, ap₂, ◌∙◌}
use mathlib.Core.Bool.{true}
use mathlib.Core.List.{List}
use lib.ListN.{length, get_or, set}
use Rattle.netlist.specs.declared.Gate.{Gate}
use Rattle.netlist.specs.declared.Hold.{Hold}
use Rattle.netlist.specs.Netlist.{gate_at, gates_of}
use Rattle.netlist.proofs.Lists.{length-gates, get_or-gates}
use Rattle.wiring.specs.Questions.{are_gates}
use Rattle.wiring.proofs.Tests.{gates-at}
use Rattle.simulation.specs.Run.{Driver, rail, gate, drive, gate_of, held, drivers_of}
use Rattle.simulation.specs.Service.{read_back}
use Rattle.evaluation.specs.Inner.Walk.{reading, worked_over}
use Rattle.simulation.proofs.Worked.{up_to, length_up, none-worked, line-worked, source-worked, further, length-drivers, rail-driver, gate-driver}

module _ (holds : List Hold) (rails gates : List ℕ) (from : ℕ) (after : 2 ≤ from) (buffer : List ℕ) where
  abbrev D : List (Driver ℕ)
  D = drivers_of rails (gates_of gates)

  pub count : 2 + length D ≡ 2 + length rails + length gates / 5
  count = omega (arith, length-drivers rails (gates_of gates), length-gates gates)

  -- The buffer whose lines below x are worked out.
  abbrev pub through : ℕ → List ℕ
  through x = worked_over holds rails gates from x buffer

  pub none-put : from ≤ length buffer → buffer ≡ through from
  none-put h = sym (none-worked D from after (reading holds) buffer h)

  module _ (x v : ℕ) (l : from ≤ x) (room : x < length buffer) {lines : List ℕ} (e : lines ≡ through x) where
    pub rail-put : x < 2 + length rails → v ≡ held holds x 0 (get_or rails (x - 2) 0) → set lines x v ≡ through (x + 1)
    unfolding drive
    rail-put h w =
        ap (λ (b : List ℕ). set b x v) e
        ∙ line-worked D from after (reading holds) buffer x v (rail 0) l (omega (arith, count)) room
        (rw (rail-driver rails (gates_of gates) (x - 2) (omega arith)) w)

    pub gate-put : (g : ℕ) {m : Gate} → x ≡ 2 + length rails + g → g < length gates / 5 → are_gates (2 + length rails) gates ≡ true →
        m ≡ gate_at gates g →
        v ≡ held holds x 0
        (gate_of m.kind (read_back (held holds x 1 (get_or lines m.left 0))) (read_back (held holds x 2 (get_or lines m.right 0)))) →
        set lines x v ≡ through (x + 1)
    unfolding drive
    gate-put g {m} at h wired q w =
        let on = gates-at (2 + length rails) gates wired g h in
        let place : x - 2 ≡ length rails + g = omega arith in
        let its = ap (λ (k : ℕ). get_or D k (gate m)) place ∙ gate-driver rails (gates_of gates) g m (omega (arith, length-gates gates))
        ∙ ap gate (get_or-gates gates g m h ∙ sym q) in
        let size = length_up D from after (reading holds) buffer x l (omega (arith, count)) (omega arith) in
        let known : (k : ℕ) → k < x → get_or lines k 0 ≡ get_or (up_to D from after (reading holds) buffer x) k 0 = λ k i.
        ap (λ (b : List ℕ). get_or b k 0) e ∙ source-worked D from after (reading holds) buffer x k l (omega (arith, count)) (omega arith) i in
        ap (λ (b : List ℕ). set b x v) e
        ∙ line-worked D from after (reading holds) buffer x v (gate m) l (omega (arith, count)) room
        (rw (its, size)
        (w ∙ ap₂ (λ (a b : ℕ). held holds x 0 (gate_of m.kind (read_back (held holds x 1 a)) (read_back (held holds x 2 b))))
        (known _ (rw q (omega (arith, on.left)))) (known _ (rw q (omega (arith, on.right))))))

-- Further lines.
pub further-put : (holds : List Hold) (rails gates : List ℕ) (from mid to : ℕ) → 2 ≤ from → from ≤ mid → mid ≤ to →
    to ≤ 2 + length rails + length gates / 5 → (buffer : List ℕ) → to ≤ length buffer → {us ws : List ℕ} →
    us ≡ worked_over holds rails gates from mid buffer → ws ≡ worked_over holds rails gates mid to us →
    ws ≡ worked_over holds rails gates from to buffer
further-put holds rails gates from mid to a l g h buffer room e f =
    f ∙ ap (λ (us : List ℕ). worked_over holds rails gates mid to us) e
    ∙ further (drivers_of rails (gates_of gates)) from a (reading holds) buffer mid to l g (omega (arith, count holds rails gates from a buffer)) room
