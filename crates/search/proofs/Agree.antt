-- Outputs whose true and false line agree: at one input, and at each bit of batches.
use Prim.Native.Nat.{ℕ, ◌+◌, ◌/◌, ◌<◌, max}
use native.Mathlib.Numerals.{add-one}
use mathlib.Core.Path.{◌≡◌, sym, ap, ap₂, ◌∙◌}
use mathlib.Core.List.{List}
use lib.Bits.{bit_or, bit_xor}
use lib.Dec.{eqb}
use lib.ListN.{length, get_or}
use Rattle.fields.specs.Bounded.{any}
use Rattle.diagram.specs.Diagram.{bit}
use Rattle.netlist.specs.declared.Pair.{Pair}
use Rattle.netlist.specs.Netlist.{pairs_of, pair_at}
use Rattle.netlist.proofs.Lists.{get_or-pairs}
use Rattle.faults.specs.Betrayal.{no_code}
use Rattle.bits.specs.Inner.Bits.{bit_of, bits_of}
use Rattle.bits.proofs.Bits.{ones, bits_at, bit-or, bit-agree, bit-either}

-- An output of a netlist, as its bytes name it.
pub agree_at : (pairs vs : List ℕ) (j : ℕ) → j < length pairs / 4 →
    no_code (pairs_of pairs) vs j ≡ eqb (get_or vs (pair_at pairs j).on 0) (get_or vs (pair_at pairs j).off 0)
unfolding no_code
agree_at pairs vs j l =
    ap (λ (p : Pair). eqb (get_or vs p.on 0) (get_or vs p.off 0)) (get_or-pairs pairs j (record { on = 0; off = 0 }) l)

-- One output more.
pub agree-more : (k : ℕ) (pairs ws : List ℕ) (j mask on off : ℕ) → k < 64 → j < length pairs / 4 →
    on ≡ get_or ws (pair_at pairs j).on 0 → off ≡ get_or ws (pair_at pairs j).off 0 →
    bit_of k mask ≡ bit (any j (no_code (pairs_of pairs) (bits_of k ws))) →
    bit_of k (bit_or mask (bit_xor (bit_xor on off) ones)) ≡ bit (any (j + 1) (no_code (pairs_of pairs) (bits_of k ws)))
unfolding any
agree-more k pairs ws j mask on off lk l eo ef e =
    let at : (i w : ℕ) → w ≡ get_or ws i 0 → bit_of k w ≡ get_or (bits_of k ws) i 0 = λ i w q. ap (bit_of k) q ∙ sym (bits_at k ws i) in
    rw add-one
    (bit-or k mask (bit_xor (bit_xor on off) ones)
    ∙ ap₂ max e (bit-agree k on off lk ∙ ap bit (ap₂ eqb (at _ on eo) (at _ off ef) ∙ sym (agree_at pairs (bits_of k ws) j l)))
    ∙ bit-either (any j (no_code (pairs_of pairs) (bits_of k ws))) (no_code (pairs_of pairs) (bits_of k ws) j))
