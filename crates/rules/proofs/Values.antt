-- What the pairs of a diagram's board show: with lines held all one way never the wrong code, with none held the right one.
use Prim.Native.Nat.{ℕ, zero, suc, ◌-◌, ◌≤◌, ◌<◌}
use native.Mathlib.Nat.{zero-add}
use native.Mathlib.Omega.{arith}
use mathlib.Core.Path.{◌≡◌, refl}
use mathlib.Core.Bool.{true}
use mathlib.Core.Logic.{◌⊎◌, inl, inr, ⊎_elim}
use Rattle.diagram.specs.declared.Diagram.{Diagram}
use Rattle.diagram.specs.Diagram.{root, Input, value_at}
use Rattle.diagram.specs.Questions.{in_range}
use Rattle.diagram.proofs.Paths.{root_in, width-last, value-bit}
use Rattle.netlist.specs.Netlist.{gate_line}
use Rattle.rules.specs.declared.Entry.{Entry}
use Rattle.rules.specs.declared.Entry.TheVariants.{Never, Always, Line}
use Rattle.rules.specs.Blocks.{cut}
use Rattle.rules.specs.Board.{line_of, whole_block, board_of}
use Rattle.rules.proofs.Valuations.{shows}
use Rattle.rules.proofs.Pairs.{whole_entry, pair}
use Rattle.rules.proofs.Models.{Model, OneSided, one_way, gates-down, rails-down, gates-up, rails-up}
use Rattle.rules.proofs.Cuts.{size-cut}
use Rattle.rules.proofs.BlockDown.{block-down}
use Rattle.rules.proofs.BlockUp.{block_up}

line-down : (ν : ℕ → ℕ) (t : Entry) → ν 0 ≡ 0 → ν (line_of t) ≡ 1 → shows ν t ≡ 1
line-down ν Never low e = absurd (omega arith)
line-down ν Always low e = refl
line-down ν (Line y) low e = e

line-up : (ν : ℕ → ℕ) (t : Entry) → ν 1 ≡ 1 → shows ν t ≡ 1 → ν (line_of t) ≡ 1
line-up ν Never high e = absurd (omega arith)
line-up ν Always high e = high
line-up ν (Line y) high e = e

-- A pair that shows the right code, or b twice.
abbrev pub Code : ℕ → ℕ → ℕ → ℕ → Type 0
Code value b on off = ((on ≡ value) × (off ≡ 1 - value)) ⊎ ((on ≡ b) × (off ≡ b))

low-code : (on off value : ℕ) → on ≤ 1 → off ≤ 1 → (on ≡ 1 → value ≡ 1) × (off ≡ 1 → value ≡ 0) → Code value 0 on off
low-code zero zero value p q down = inr (refl, refl)
low-code (suc on) zero value p q (f, g) = let e = f (omega arith) in inl (omega arith, omega arith)
low-code zero (suc off) value p q (f, g) = let e = g (omega arith) in inl (omega arith, omega arith)
low-code (suc on) (suc off) value p q (f, g) = absurd (omega (arith, f (omega arith), g (omega arith)))

high-code : (on off value : ℕ) → on ≤ 1 → off ≤ 1 → value < 2 → (value ≡ 1 → on ≡ 1) × (value ≡ 0 → off ≡ 1) → Code value 1 on off
high-code zero off zero p q v (f, g) = inl (refl, g refl)
high-code (suc on) off zero p q v (f, g) = inr (omega arith, g refl)
high-code on zero (suc value) p q v (f, g) = let e = f (omega arith) in inl (omega arith, omega arith)
high-code on (suc off) (suc value) p q v (f, g) = let e = f (omega arith) in inr (omega arith, omega arith)

module _ (d : Diagram) (ranged : in_range d ≡ true) (some : 1 ≤ d.contacts) (x : Input) (ν : ℕ → ℕ) where
  module _ (s : OneSided (board_of d) x 0 ν) (j : ℕ) (h : j < d.outputs) where
    whole-down : (v : ℕ) → v < 2 → ν (line_of (whole_entry d j v)) ≡ 1 → value_at d x j ≡ v
    unfolding board_of whole_block value_at
    whole-down v hv e =
        let n = size-cut d.contacts some in
        (rw (n, zero-add d.contacts, width-last d) at
        ((block-down d x ν (rails-down x s) (cut d.contacts) 0 (omega arith)).result (gate_line d.contacts) (gates-down x s)))
        (root d j) v (root_in d ranged j h) hv (line-down ν (whole_entry d j v) s.low e)

    pub board-down : (ν (pair d j).on ≡ 1 → value_at d x j ≡ 1) × (ν (pair d j).off ≡ 1 → value_at d x j ≡ 0)
    board-down = (whole-down 1 (omega arith), whole-down 0 (omega arith))

  module _ (s : OneSided (board_of d) x 1 ν) (j : ℕ) (h : j < d.outputs) where
    whole-up : (v : ℕ) → value_at d x j ≡ v → ν (line_of (whole_entry d j v)) ≡ 1
    unfolding board_of whole_block value_at
    whole-up v e =
        let n = size-cut d.contacts some in
        line-up ν (whole_entry d j v) s.high
        (rw (n, e) at
        ((block_up d ranged x ν (rails-up x s) (cut d.contacts) 0 (omega arith)).result (gate_line d.contacts) (gates-up x s)
        (root d j) (root_in d ranged j h)))

    pub board-up : (value_at d x j ≡ 1 → ν (pair d j).on ≡ 1) × (value_at d x j ≡ 0 → ν (pair d j).off ≡ 1)
    board-up = (whole-up 1, whole-up 0)

-- Each pair shows the right code or the held value twice.
pub no-wrong-code : (d : Diagram) → in_range d ≡ true → 1 ≤ d.contacts → (x : Input) (b : ℕ) (ν : ℕ → ℕ) → b ≤ 1 →
    OneSided (board_of d) x b ν → (j : ℕ) → j < d.outputs →
    Code (value_at d x j) b (ν (pair d j).on) (ν (pair d j).off)
no-wrong-code d ranged some x zero ν h s j l =
    low-code _ _ _ (s.bits _) (s.bits _) (board-down d ranged some x ν s j l)
no-wrong-code d ranged some x (suc zero) ν h s j l =
    high-code _ _ _ (s.bits _) (s.bits _) (value-bit d ranged x j l) (board-up d ranged some x ν s j l)
no-wrong-code d ranged some x (suc (suc b)) ν h s j l = absurd (omega arith)

-- With nothing held neither value stands twice.
pub model-right : (d : Diagram) (x : Input) (ν : ℕ → ℕ) → Model (board_of d) x ν → in_range d ≡ true → 1 ≤ d.contacts →
    (j : ℕ) → j < d.outputs → (ν (pair d j).on ≡ value_at d x j) × (ν (pair d j).off ≡ 1 - value_at d x j)
model-right d x ν model ranged some j h =
    let code : (b : ℕ) → b ≤ 1 → Code (value_at d x j) b (ν (pair d j).on) (ν (pair d j).off) = λ b l.
    no-wrong-code d ranged some x b ν l (one_way x b model) j h in
    ⊎_elim (λ r. r) (λ (p, q). ⊎_elim (λ r. r) (λ (p', q'). absurd (omega arith)) (code 1 (omega arith))) (code 0 (omega arith))
