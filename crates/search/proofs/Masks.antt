-- A mask of the inputs at which outputs agree tells which inputs betray a held line or pin.
use Prim.Native.Nat.{ℕ, ◌+◌, ◌<◌}
use mathlib.Core.Path.{◌≡◌, ap, ◌∙◌}
use mathlib.Core.List.{List, []}
use Rattle.diagram.specs.Diagram.{bit}
use Rattle.netlist.specs.declared.Hold.{Hold}
use Rattle.netlist.specs.Netlist.{pairs_of, net_of}
use Rattle.simulation.specs.Run.{values_of}
use Rattle.faults.specs.Betrayal.{stuck_at, some_no_code, betrays}
use Rattle.bits.specs.Inner.Bits.{bit_of, bits_of}

pub mask-tells : (n : ℕ) (gates pairs : List ℕ) (h : Hold) (base : ℕ) (ws : List ℕ) (mask : ℕ) →
    ((k : ℕ) → k < 64 → bit_of k mask ≡ bit (some_no_code (pairs_of pairs) (bits_of k ws))) →
    ((k : ℕ) → k < 64 → bits_of k ws ≡ stuck_at (net_of n gates []) h (base + k)) → (k : ℕ) → k < 64 →
    bit_of k mask ≡ bit (betrays (net_of n gates pairs) h (base + k))
unfolding stuck_at values_of betrays
mask-tells n gates pairs h base ws mask agree shown k l =
    agree k l ∙ ap (λ (vs : List ℕ). bit (some_no_code (pairs_of pairs) vs)) (shown k l)
