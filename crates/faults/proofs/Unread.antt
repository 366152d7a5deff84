-- A line that nothing reads changes no other line when it is held.
use Prim.Native.Nat.{ℕ, zero, suc, ◌+◌, ◌*◌, ◌-◌, ◌<◌}
use native.Mathlib.Decide.{dec_lt}
use native.Mathlib.Omega.{arith}
use mathlib.Core.Path.{◌≡◌, sym, ap₂, ◌∙◌}
use mathlib.Core.Bool.{false}
use mathlib.Core.List.{List, [], ◌∷◌}
use mathlib.Core.Logic.{by_cases}
use lib.ListN.{length, get_or}
use Rattle.netlist.specs.declared.Hold.{Hold}
use Rattle.netlist.specs.Netlist.{Netlist, gate_line, line_count, is_read}
use Rattle.netlist.proofs.Readers.{gate-elsewhere}
use Rattle.netlist.proofs.Sound.{Wired}
use Rattle.simulation.specs.Run.{gate_of, held, values_of}
use Rattle.simulation.proofs.Monotone.{held-elsewhere}
use Rattle.simulation.proofs.Obeys.{Obeys, obeys}
use Rattle.rules.proofs.Makes.{any_gate}

module _ (net : Netlist) (wired : Wired net) (rails : List ℕ) (count : length rails ≡ 2 * net.contacts) (h : Hold)
    (unread : is_read net h.line ≡ false) where
  abbrev first : ℕ
  first = gate_line net.contacts

  -- What line y shows with the line held, and with none held.
  abbrev stuck : ℕ → ℕ
  stuck y = get_or (values_of net rails (h ∷ [])) y 0

  abbrev free : ℕ → ℕ
  free y = get_or (values_of net rails []) y 0

  with-hold : Obeys net rails (h ∷ []) (values_of net rails (h ∷ []))
  with-hold = obeys net rails (h ∷ []) count wired

  without : Obeys net rails [] (values_of net rails [])
  without = obeys net rails [] count wired

  abbrev Same : ℕ → Type 0
  Same y = (h.line ≡ y → ⊥) → stuck y ≡ free y

  rail-same : (i : ℕ) → i < 2 * net.contacts → Same (2 + i)
  unfolding held
  rail-same i l ne = with-hold.rail i l ∙ held-elsewhere (h ∷ []) (2 + i) 0 _ (ne, tt) ∙ sym (without.rail i l)

  gate_same : (g : ℕ) → g < length net.gates → ((y : ℕ) → y < first + g → Same y) → Same (first + g)
  unfolding held
  gate_same g l below ne =
      let (left, right) = gate-elsewhere net h.line any_gate (record { on = 0; off = 0 }) unread g l in
      let o = wired g any_gate l in
      with-hold.gate g any_gate l
      ∙ held-elsewhere (h ∷ []) (first + g) 0 _ (ne, tt)
      ∙ ap₂ (gate_of (get_or net.gates g any_gate).kind) (held-elsewhere (h ∷ []) (first + g) 1 _ (ne, tt))
      (held-elsewhere (h ∷ []) (first + g) 2 _ (ne, tt))
      ∙ ap₂ (gate_of (get_or net.gates g any_gate).kind) (below _ o.left (λ e. left (sym e)))
      (below _ o.right (λ e. right (sym e)))
      ∙ sym (without.gate g any_gate l)

  line_same : (k y : ℕ) → y < k → y < line_count net → Same y
  line_same zero y l inside = absurd (omega arith)
  line_same (suc k) zero l inside = λ ne. with-hold.low ∙ sym without.low
  line_same (suc k) (suc zero) l inside = λ ne. with-hold.high ∙ sym without.high
  line_same (suc k) (suc (suc i)) l inside =
      let place : 2 + i ≡ suc (suc i) = omega arith in
      by_cases (dec_lt i (2 * net.contacts)) (λ low. rw place at (rail-same i low))
      (λ high.
      let gate : first + (i - 2 * net.contacts) ≡ suc (suc i) = omega arith in
      rw gate at
      (gate_same (i - 2 * net.contacts) (omega arith) (λ y less. line_same k y (omega arith) (omega arith))))

  pub same_line : (y : ℕ) → y < line_count net → (h.line ≡ y → ⊥) → stuck y ≡ free y
  same_line y = line_same (suc y) y (omega arith)
