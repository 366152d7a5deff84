-- `passes::HeldBoard::put_rails` meets its contract. The loop's invariant: at each bit the lines below contact i's rails obey the run rule.
use Prim.Native.Nat.{ℕ, ◌+◌, ◌<◌}
use mathlib.Core.Path.{◌≡◌}
use lib.ListN.{take}
use Rattle.netlist.specs.Netlist.{gate_line}
use Rattle.batches.specs.Inner.Batches.{firsts, seconds, rails_at}
use Rattle.bits.specs.Inner.Bits.{bits_of}
use Rattle.search.proofs.passes.HeldBoard.put_rails.Given as goal

abbrev pub invariant-loop-i : goal.invariant-loop-i
invariant-loop-i l = record {
  first : (k : ℕ) → k < 64 →
      bits_of k (take (gate_line l.i) (firsts l.batches)) ≡ rails_at l.i l.base l.self.hold k (bits_of k (take 2 (firsts l.initial.batches)));
  second : (k : ℕ) → k < 64 →
      bits_of k (take (gate_line l.i) (seconds l.batches)) ≡ rails_at l.i (l.base + 64) l.self.hold k (bits_of k (take 2 (seconds l.initial.batches)));
}
