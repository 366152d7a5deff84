-- The formula for gates: a block of c levels makes at most c - 1 times as many gates as one product.
use Prim.Native.Nat.{ℕ, suc, ◌+◌, ◌*◌, ◌-◌, ◌≤◌, ◌<◌}
use native.Mathlib.Nat.{mul_comm, mul-sub, mul-le-mul, le_trans, le_of_eq, eq-or-lt_of_le}
use native.Mathlib.Omega.{arith}
use mathlib.Core.Path.{◌≡◌, ap}
use mathlib.Core.List.{List}
use mathlib.Core.Logic.{⊎_elim}
use lib.ListN.{length, get_or}
use borrow.Author.Tests.{lt-ltb}
use Rattle.diagram.specs.declared.Diagram.{Diagram}
use Rattle.diagram.specs.Diagram.{width}
use Rattle.diagram.specs.Questions.{Sized}
use Rattle.diagram.proofs.Paths.{width-last}
use Rattle.netlist.specs.Netlist.{gate_line}
use Rattle.rules.specs.Blocks.{Cut, one, two, size, cut, level_matrix, block}
use Rattle.rules.specs.Board.{whole_block, board_of}
use Rattle.rules.specs.Formulas.{widest, product_most, gates_most}
use Rattle.rules.proofs.Cuts.{size-cut}
use Rattle.rules.proofs.Formulas.{widest-at}
use Rattle.rules.proofs.Counts.{Counts, Most, return-count, bind-count, weaken-count, sequence-count, product-within}

level-count : (d : Diagram) (l : ℕ) → Most 0 (level_matrix d l)
unfolding level_matrix
level-count d l =
    weaken-count
    (sequence-count _ _ (λ u. sequence-count _ 0 (λ v. return-count (omega arith)) (width d (suc l)) 0) (width d l) 0)
    (λ k m le. omega arith)

module _ (d : Diagram) (w : ℕ) (narrow : (l : ℕ) → l ≤ d.contacts → width d l ≤ w) where
  pub block-count : (c : Cut) (l : ℕ) → l + size c ≤ d.contacts →
      Counts (block d c l) (λ k _. k + product_most w ≤ size c * product_most w)
  unfolding block
  block-count one l fits = weaken-count (level-count d l) (λ k m le. omega arith)
  block-count (two a b) l fits =
      bind-count (block-count a l (omega arith)) (λ i left p.
      bind-count (block-count b (l + size a) (omega arith)) (λ j right q.
      weaken-count
      (product-within w _ _ _ left right (narrow l (omega arith)) (narrow (l + size a) (omega arith))
      (narrow (l + size a + size b) (omega arith)))
      (λ k m le. omega arith)))

  pub gates-bound : 1 ≤ d.contacts → length (board_of d).gates ≤ (d.contacts - 1) * product_most w
  unfolding board_of whole_block
  gates-bound some =
      let whole = size-cut d.contacts some in
      let most = (block-count (cut d.contacts) 0 (omega arith)).from (gate_line d.contacts) in
      rw (mul_comm (d.contacts - 1) (product_most w), mul-sub (product_most w) d.contacts 1)
      (omega (arith, rw whole at most))

pub gates-within : (d : Diagram) → 1 ≤ d.contacts → length (board_of d).gates ≤ gates_most d
unfolding gates_most
gates-within d some = gates-bound d (widest d) (widest-at d) some

-- The limits make every level, level n too, at most 8 nodes wide.
pub sized-narrow : (d : Diagram) → Sized d → (l : ℕ) → l ≤ d.contacts → width d l ≤ 8
sized-narrow d sized l h =
    ⊎_elim (λ e. omega (arith, ap (width d) e, width-last d)) (λ below. (sized.widths l below).1) (eq-or-lt_of_le h)

pub gates-most : (d : Diagram) → 1 ≤ d.contacts → d.contacts ≤ 12 → ((l : ℕ) → l ≤ d.contacts → width d l ≤ 8) →
    length (board_of d).gates ≤ 10560
gates-most d some few narrow = omega (arith, gates-bound d 8 narrow some)

-- A width that is at least 2 and at least those of the first levels.
abbrev pub Covers : List ℕ → ℕ → ℕ → Type 0
Covers widths l w = (2 ≤ w) × ((k : ℕ) → k < l → get_or widths k 0 ≤ w)

pub covers_more : (widths : List ℕ) (l : ℕ) {w next : ℕ} → Covers widths l w → w ≤ next → get_or widths l 0 ≤ next → Covers widths (l + 1) next
covers_more widths l c more here = (
  omega (arith, c.0),
  λ k h.
      ⊎_elim (λ e. le_trans (le_of_eq (ap (λ (i : ℕ). get_or widths i 0) e)) here) (λ below. le_trans (c.1 k below) more)
      (eq-or-lt_of_le (let le : k ≤ l = omega arith in le)),
)

module _ (d : Diagram) where
  width-at : (l : ℕ) → l < d.contacts → width d l ≡ get_or d.widths l 0
  unfolding width
  width-at l h = simp (lt-ltb _ _ h)

  pub width_narrow : Sized d → (l : ℕ) → l < d.contacts → get_or d.widths l 0 ≤ 8
  width_narrow sized l h = rw (width-at l h) at (sized.widths l h).1

  -- The formula for a width that covers every level.
  pub gates-covered : (w : ℕ) → 1 ≤ d.contacts → Covers d.widths d.contacts w →
      length (board_of d).gates ≤ (d.contacts - 1) * (w * w * (2 * w - 1))
  gates-covered w some c =
      gates-bound d w (λ l h.
      ⊎_elim (λ e. omega (arith, ap (width d) e, width-last d, c.0)) (λ below. rw (width-at l below) (c.1 l below)) (eq-or-lt_of_le h))
      some

pub square-most : {w : ℕ} → w ≤ 8 → w * w ≤ 64
square-most h = mul-le-mul h h

pub cube-most : {w : ℕ} → w ≤ 8 → w * w * (2 * w - 1) ≤ 960
cube-most {w} h = mul-le-mul (square-most h) (let le : 2 * w - 1 ≤ 15 = omega arith in le)

pub whole-most : {n w : ℕ} → n ≤ 12 → w ≤ 8 → (n - 1) * (w * w * (2 * w - 1)) ≤ 10560
whole-most {n} few h = mul-le-mul (let le : n - 1 ≤ 11 = omega arith in le) (cube-most h)
