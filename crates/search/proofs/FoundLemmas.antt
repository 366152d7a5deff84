-- A mask whose bit k tells whether input base + k betrays a hold, with none below base: its lowest set bit is the smallest that does.
use Prim.Native.Nat.{ℕ, ◌+◌, ◌-◌, ◌^◌, ◌≤◌, ◌<◌}
use native.Mathlib.Omega.{arith}
use native.Mathlib.Decide.{dec_lt}
use mathlib.Core.Path.{◌≡◌, refl, sym, ap, ap₂, ◌∙◌}
use mathlib.Core.Bool.{Bool, true, false, cond}
use Rattle.std.proofs.Common.{Option, Some, None}
use Rattle.diagram.specs.Diagram.{bit}
use Rattle.diagram.proofs.Inputs.{bit-true}
use Rattle.netlist.specs.declared.Hold.{Hold}
use Rattle.netlist.specs.Netlist.{Netlist}
use Rattle.faults.specs.Betrayal.{betrays, is_seen, smallest_input}
use Rattle.bits.specs.Inner.Bits.{bit_of}
use Rattle.bits.proofs.Bits.{bit-zero}
use Rattle.fields.proofs.Bounded.{any_at, any-not}
use Rattle.fields.proofs.Least.{least-is}
use Rattle.search.specs.Inner.Found.{found_in}
use Rattle.search.proofs.Within.{first-within}

clear-false : (b : Bool) → bit b ≡ 0 → b ≡ false
clear-false true e = absurd (omega arith)
clear-false false e = refl

module _ (net : Netlist) (h : Hold) where
  abbrev answer : Bool → ℕ → Option ℕ
  answer seen input = cond seen (Some input) None

  -- No code input betrays.
  pub nowhere : ((a : ℕ) → a < 2 ^ net.contacts → betrays net h a ≡ false) → None ≡ found_in net h
  unfolding is_seen
  nowhere none = ap (λ (b : Bool). answer b (smallest_input net h)) (sym (any-not (betrays net h) (2 ^ net.contacts) none))

  module _ (base mask : ℕ) (bits : (k : ℕ) → k < 64 → bit_of k mask ≡ bit (betrays net h (base + k)))
      (none : (a : ℕ) → a < base → betrays net h a ≡ false) where
    -- No input below base + t betrays if the bits below t are clear.
    clear : (t : ℕ) → ((k : ℕ) → k < t → bit_of k mask ≡ 0) → t ≤ 64 → (a : ℕ) → a < base + t → betrays net h a ≡ false
    clear t low l a high = go (dec_lt a base)
      where
        go : Dec (a < base) → betrays net h a ≡ false
        go (yes m) = none a m
        go (no m) =
            let from : base ≤ a = omega arith in
            let e : base + (a - base) ≡ a = omega arith in
            ap (betrays net h) (sym e) ∙ clear-false _ (sym (bits (a - base) (omega arith)) ∙ low (a - base) (omega arith))

    pub clear-all : mask ≡ 0 → (a : ℕ) → a < base + 64 → betrays net h a ≡ false
    clear-all e = clear 64 (λ k _. ap (bit_of k) e ∙ bit-zero k) (omega arith)

    pub found : (t : ℕ) → t < 64 → bit_of t mask ≡ 1 → ((k : ℕ) → k < t → bit_of k mask ≡ 0) → Some (base + t) ≡ found_in net h
    unfolding is_seen
    found t l e low =
        let below = clear t low (omega arith) in
        let there : betrays net h (base + t) ≡ true = bit-true _ (sym (bits t l) ∙ e) in
        let small = first-within net h (base + t) there below in
        ap₂ answer (sym (any_at (betrays net h) (2 ^ net.contacts) (base + t) small there))
        (least-is (betrays net h) (record { below = small; passes = there; none = below }))
