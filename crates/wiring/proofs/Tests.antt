-- What the tests of a gate and of an output say.
use borrow.Author.Tests.{ltb-true, leb-true, lt-ltb, le-leb}
use Prim.Native.Nat.{ℕ, ◌+◌, ◌/◌, ◌<◌}
use mathlib.Core.Path.{◌≡◌}
use mathlib.Core.Bool.{true, ◌&&◌}
use mathlib.Core.List.{List}
use lib.Dec.{ltb, leb}
use lib.ListN.{length}
use Rattle.fields.proofs.Bounded.{all-at, and_left, and_right}
use Rattle.netlist.specs.declared.Gate.{Gate}
use Rattle.netlist.specs.declared.Pair.{Pair}
use Rattle.netlist.specs.Netlist.{gate_at, pair_at}
use Rattle.netlist.proofs.Sound.{GateOn, PairIn}
use Rattle.wiring.specs.Questions.{is_gate, is_pair, are_gates, are_pairs}

pub gate-on : (line : ℕ) (g : Gate) → is_gate line g ≡ true → GateOn line g
gate-on line g e =
    let a = leb g.kind 1 in
    let b = ltb g.left line in
    let c = ltb g.right line in
    let l = and_left (a && b) c e in
    record { kind = leb-true _ _ (and_left a b l); left = ltb-true _ _ (and_right a b l); right = ltb-true _ _ (and_right (a && b) c e) }

pub on-gate : (line : ℕ) (g : Gate) → GateOn line g → is_gate line g ≡ true
on-gate line g o = simp (le-leb _ _ o.kind, lt-ltb _ _ o.left, lt-ltb _ _ o.right)

pub gates-at : (first : ℕ) (gates : List ℕ) → are_gates first gates ≡ true → (g : ℕ) → g < length gates / 5 →
    GateOn (first + g) (gate_at gates g)
gates-at first gates e g h =
    gate-on _ _ (all-at (λ k. is_gate (first + k) (gate_at gates k)) (length gates / 5) e g h)

pub pair-in : (lines : ℕ) (p : Pair) → is_pair lines p ≡ true → PairIn lines p
pair-in lines p e =
    let a = ltb p.on lines in
    let b = ltb p.off lines in
    record { on = ltb-true _ _ (and_left a b e); off = ltb-true _ _ (and_right a b e) }

pub pairs-at : (lines : ℕ) (pairs : List ℕ) → are_pairs lines pairs ≡ true → (j : ℕ) → j < length pairs / 4 →
    PairIn lines (pair_at pairs j)
pairs-at lines pairs e j h = pair-in _ _ (all-at (λ k. is_pair lines (pair_at pairs k)) (length pairs / 4) e j h)

pub in_pair : (lines : ℕ) (p : Pair) → PairIn lines p → is_pair lines p ≡ true
in_pair lines p i = simp (lt-ltb _ _ i.on, lt-ltb _ _ i.off)
