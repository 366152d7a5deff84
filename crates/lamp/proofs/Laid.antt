-- A netlist with its lamp is wired: kinds are 0 or 1, sources lie below their gate's own line, the lamp's lines are in the netlist.
use Prim.Native.Nat.{ℕ, ◌+◌, ◌*◌, ◌≤◌, ◌<◌}
use native.Mathlib.Omega.{arith}
use lib.ListN.{length}
use Rattle.netlist.specs.Netlist.{Netlist, gate_line, line_count}
use Rattle.netlist.proofs.Sound.{GateOn, PairIn, Wired, PairsWired}
use Rattle.rules.specs.Blocks.{cut}
use Rattle.rules.specs.Formulas.{log2up}
use Rattle.rules.specs.Lamp.{no_pair, lamp_of, with_lamp}
use Rattle.rules.proofs.Cuts.{size-cut}
use Rattle.rules.proofs.Every.{Every, every-by}
use Rattle.rules.proofs.Formulas.{log2-enough}
use Rattle.rules.proofs.Heights.{height-cut}
use Rattle.rules.proofs.LampLines.{PairLies, pair-on, lamp-lays}
use Rattle.rules.proofs.Lays.{Rises, LaidGate, each-join}
use Rattle.rules.proofs.Makes.{any_gate, Each, each_weaken}
use Rattle.rules.proofs.Wired.{each-wired, laid_on}
use Rattle.lamp.proofs.Extended.{lamp-lines}

-- Every line will do.
abbrev pub Any : ℕ → Type 0
Any x = Unit

module _ (net : Netlist) (some : 1 ≤ length net.pairs) (shown : PairsWired net) where
  -- For any depths of the lines that are at most e in the netlist and rise by one at most from gate to gate of the lamp.
  pub lamp-laid : (δ : ℕ → ℕ) (e : ℕ) → ((y : ℕ) → y < line_count net → δ y ≤ e) →
      Each (Rises Any δ) (line_count net) (lamp_of net).0 →
      let most = e + 2 * log2up (length net.pairs) in
      Each (LaidGate Any δ most) (line_count net) (lamp_of net).0
      × PairLies Any δ most (line_count net + length (lamp_of net).0) (lamp_of net).1
  unfolding lamp_of
  lamp-laid δ e shallow rises =
      let m = length net.pairs in
      let low = height-cut m (log2up m) (log2-enough m) in
      let lies : Every (PairLies Any δ e (line_count net)) net.pairs =
      every-by net.pairs no_pair (λ j h.
      let p = shown j no_pair h in (
        record { has = tt; below = p.on; depth = shallow _ p.on },
        record { has = tt; below = p.off; depth = shallow _ p.off },
      )) in
      let whole = size-cut m some in
      let (gates, pair) = (lamp-lays {most = e + 2 * log2up m} (cut m) lies (omega arith) (omega arith)).laid rises in
      (gates, pair-on _ _ _ _ _ (omega arith) (omega arith) pair)

  flat : Each (LaidGate Any (λ _. 0) (0 + 2 * log2up (length net.pairs))) (line_count net) (lamp_of net).0
      × PairLies Any (λ _. 0) (0 + 2 * log2up (length net.pairs)) (line_count net + length (lamp_of net).0) (lamp_of net).1
  flat = lamp-laid (λ _. 0) 0 (λ y h. omega arith) (record { has = λ i h. (tt, omega arith) })

  pub lamp-wired : Wired net → Wired (with_lamp net)
  unfolding with_lamp
  lamp-wired wired =
      let plain : Each GateOn (gate_line net.contacts) net.gates = record { has = λ g h. wired g any_gate h } in
      each-wired (with_lamp net) (each-join net.gates (lamp_of net).0 plain (each_weaken laid_on flat.0))

  pub pair-wired : PairIn (line_count (with_lamp net)) (lamp_of net).1
  pair-wired =
      let (on, off) = flat.1 in
      record { on = omega (arith, lamp-lines net, on.below); off = omega (arith, lamp-lines net, off.below) }
