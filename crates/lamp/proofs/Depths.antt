-- The lamp makes a netlist at most twice the logarithm of its count of pairs deeper.
use Prim.Native.Nat.{ℕ, ◌+◌, ◌*◌, ◌-◌, ◌≤◌, ◌<◌}
use native.Mathlib.Decide.{dec_lt}
use native.Mathlib.Nat.{le_of_eq}
use native.Mathlib.Omega.{arith}
use mathlib.Core.Path.{◌≡◌}
use lib.ListN.{length}
use Rattle.netlist.specs.Netlist.{Netlist, gate_line, line_count}
use Rattle.netlist.proofs.Sound.{Wired, PairsWired}
use Rattle.rules.specs.Board.{depths_of, depth_of}
use Rattle.rules.specs.Formulas.{log2up}
use Rattle.rules.specs.Lamp.{lamp_of, with_lamp}
use Rattle.rules.proofs.Depths.{depth_at, depths-length, gate-depth, largest-at, largest-most}
use Rattle.rules.proofs.Lays.{Rises, LaidGate}
use Rattle.rules.proofs.Makes.{any_gate, Each, each_right}
use Rattle.lamp.proofs.Extended.{lamp-lines, plain-depth}
use Rattle.lamp.proofs.Laid.{Any, lamp-laid, lamp-wired}

module _ (net : Netlist) (some : 1 ≤ length net.pairs) (wired : Wired net) (pairs : PairsWired net) where
  abbrev δ : ℕ → ℕ
  δ = depth_at (with_lamp net)

  abbrev most : ℕ
  most = depth_of net + 2 * log2up (length net.pairs)

  plain-low : (y : ℕ) → y < line_count net → δ y ≤ depth_of net
  unfolding depth_of
  plain-low y h = rw (plain-depth net y h) (largest-at (depths_of net) y)

  gates-rise : Each (Rises Any δ) (line_count net) (lamp_of net).0
  unfolding with_lamp
  gates-rise =
      let all : Each (Rises Any δ) (gate_line net.contacts) (with_lamp net).gates =
      record {
        has = λ g h.
            let w = lamp-wired net some pairs wired g any_gate h in
            (tt, le_of_eq (gate-depth (with_lamp net) g h w.left w.right));
      } in
      each_right net.gates (lamp_of net).0 all

  gates-low : Each (LaidGate Any δ most) (line_count net) (lamp_of net).0
  gates-low = (lamp-laid net some pairs δ (depth_of net) plain-low gates-rise).0

  line_low : (y : ℕ) → y < line_count (with_lamp net) → δ y ≤ most
  line_low y h = go (dec_lt y (line_count net))
    where
      go : Dec (y < line_count net) → δ y ≤ most
      go (yes l) = omega (arith, plain-low y l)
      go (no n) =
          let i = y - line_count net in
          let p : line_count net + i ≡ y = omega arith in
          rw p at (gates-low.has i (omega (arith, lamp-lines net))).depth

  pub lamp-depth : depth_of (with_lamp net) ≤ depth_of net + 2 * log2up (length net.pairs)
  unfolding depth_of
  lamp-depth = largest-most (depths_of (with_lamp net)) most (λ y h. line_low y (omega (arith, depths-length (with_lamp net))))
