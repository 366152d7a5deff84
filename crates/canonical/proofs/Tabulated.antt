-- A truth table with a map's value at each input is the block of the map's function.
use Prim.Native.Nat.{ℕ, zero, suc, ◌+◌, ◌*◌, ◌-◌, ◌/◌, ◌%◌, ◌^◌, ◌≤◌, ◌<◌}
use native.Mathlib.Decide.{ℕ_discrete}
use native.Mathlib.Nat.{zero-mod, div-add-mod', suc-mul, add-mul, mul-add}
use native.Mathlib.Omega.{arith}
use mathlib.Core.Path.{◌≡◌, sym, ap, ap₂, ◌∙◌}
use mathlib.Core.Bool.{Bool, true, false}
use mathlib.Core.Logic.{by_cases}
use mathlib.Core.List.{List}
use borrow.Author.Tests.{eq-eqb, ne_eqb}
use lib.Arith.{digits_div, digits_mod}
use lib.Dec.{eqb}
use lib.Pow.{pow_pos, shr-shr}
use Rattle.diagram.specs.Diagram.{Input, input_of}
use Rattle.functions.specs.Functions.{constant, choice, with_contact, tree}
use Rattle.functions.proofs.Trees.{Values}
use Rattle.canonical.specs.Inner.Blocks.{bit_in, block_at, input_at}

-- The bits of a place that is a multiple of 2^(k+1), and of the place 2^k further on: bit k is 0 or 1, those above it are the same.
module _ (q k : ℕ) (whole : q % 2 ^ suc k ≡ 0) where
  abbrev a : ℕ
  a = q / 2 ^ suc k

  pub multiple : q ≡ (a + a) * 2 ^ k
  multiple =
      let twice : 2 ^ suc k ≡ 2 ^ k + 2 ^ k = omega arith in
      let e : q ≡ a * 2 ^ suc k = omega (arith, div-add-mod' q (2 ^ suc k)) in
      e ∙ ap (◌*◌ a) twice ∙ mul-add a (2 ^ k) (2 ^ k) ∙ sym (add-mul a a (2 ^ k))

  low : q / 2 ^ k ≡ a + a
  low =
      let e : q ≡ (a + a) * 2 ^ k + 0 = omega (arith, multiple) in
      ap (λ (x : ℕ). x / 2 ^ k) e ∙ digits_div (a + a) (pow_pos k)

  low-next : (q + 2 ^ k) / 2 ^ k ≡ suc (a + a)
  low-next =
      let e : q + 2 ^ k ≡ suc (a + a) * 2 ^ k + 0 = omega (arith, multiple, suc-mul (a + a) (2 ^ k)) in
      ap (λ (x : ℕ). x / 2 ^ k) e ∙ digits_div (suc (a + a)) (pow_pos k)

  high-next : (q + 2 ^ k) / 2 ^ suc k ≡ a
  high-next =
      let e : q + 2 ^ k ≡ a * 2 ^ suc k + 2 ^ k = omega (arith, div-add-mod' q (2 ^ suc k)) in
      ap (λ (x : ℕ). x / 2 ^ suc k) e ∙ digits_div a (omega (arith, pow_pos k))

  pub half-whole : q % 2 ^ k ≡ 0
  half-whole =
      let e : q ≡ (a + a) * 2 ^ k + 0 = omega (arith, multiple) in
      ap (λ (x : ℕ). x % 2 ^ k) e ∙ digits_mod (a + a) (pow_pos k)

  pub next-whole : (q + 2 ^ k) % 2 ^ k ≡ 0
  next-whole =
      let e : q + 2 ^ k ≡ suc (a + a) * 2 ^ k + 0 = omega (arith, multiple, suc-mul (a + a) (2 ^ k)) in
      ap (λ (x : ℕ). x % 2 ^ k) e ∙ digits_mod (suc (a + a)) (pow_pos k)

  bit-open : input_of q k ≡ false
  unfolding input_of
  bit-open = ne_eqb (q / 2 ^ k % 2) 1 (omega (arith, low))

  bit-closed : input_of (q + 2 ^ k) k ≡ true
  unfolding input_of
  bit-closed = eq-eqb ((q + 2 ^ k) / 2 ^ k % 2) 1 (omega (arith, low-next))

  above_same : (i : ℕ) → k < i → input_of (q + 2 ^ k) i ≡ input_of q i
  unfolding input_of
  above_same i h =
      let r = i - suc k in
      let e : suc k + r ≡ i = omega arith in
      let at : (x : ℕ) → x / 2 ^ i ≡ x / 2 ^ suc k / 2 ^ r = λ x. ap (λ (p : ℕ). x / 2 ^ p) (sym e) ∙ sym (shr-shr x (suc k) r) in
      ap (λ (x : ℕ). eqb (x % 2) 1) (at (q + 2 ^ k) ∙ ap (λ (x : ℕ). x / 2 ^ r) high-next ∙ sym (at q))

module _ (n : ℕ) (ws : List ℕ) (s : ℕ) (v : Input → ℕ) (values : Values n v)
    (tabulated : (q : ℕ) → q < 2 ^ n → bit_in ws (s + q) ≡ v (input_at n q)) where
  -- From contact l on, with the contacts before as at bit q.
  block-tree : (left l q : ℕ) (x : Input) → l + left ≡ n → q % 2 ^ left ≡ 0 → q + 2 ^ left ≤ 2 ^ n →
      ((i : ℕ) → i < l → x i ≡ input_at n q i) → block_at ws left (s + q) ≡ tree left l v x
  unfolding block_at tree
  block-tree zero l q x p whole within same =
      ap constant (tabulated q (omega arith) ∙ sym (values.first x (input_at n q) (λ i h. same i (omega arith))))
  block-tree (suc left) l q x p whole within same =
      ap₂ choice
      (block-tree left (suc l) q (with_contact l false x) (omega arith) (half-whole q left whole) (omega arith) (λ i h.
      by_cases (ℕ_discrete i l) (λ e. at_own false i e ∙ sym (ap (input_of q) (place i e) ∙ bit-open q left whole))
      (λ ne. at_other false i ne ∙ same i (omega arith))))
      (ap (block_at ws left) (omega arith)
      ∙ block-tree left (suc l) (q + 2 ^ left) (with_contact l true x) (omega arith) (next-whole q left whole) (omega arith) (λ i h.
      by_cases (ℕ_discrete i l) (λ e. at_own true i e ∙ sym (ap (input_of (q + 2 ^ left)) (place i e) ∙ bit-closed q left whole))
      (λ ne. at_other true i ne ∙ same i (omega arith) ∙ sym (above_same q left whole (n - suc i) (omega arith)))))
    where
      place : (i : ℕ) → i ≡ l → n - suc i ≡ left
      place i e = omega arith

      at_own : (b : Bool) (i : ℕ) → i ≡ l → with_contact l b x i ≡ b
      at_own b i e = simp (eq-eqb i l e)

      at_other : (b : Bool) (i : ℕ) → (i ≡ l → ⊥) → with_contact l b x i ≡ x i
      at_other b i ne = simp (ne_eqb i l ne)

  pub block-is : block_at ws n s ≡ tree n 0 v (λ _. false)
  block-is =
      let whole : 0 % 2 ^ n ≡ 0 = zero-mod (2 ^ n) in
      let e : s ≡ s + 0 = omega arith in
      ap (block_at ws n) e ∙ block-tree n 0 0 (λ _. false) (omega arith) whole (omega arith) (λ i h. absurd (omega arith))
