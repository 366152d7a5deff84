-- Words and the values in them. Diagrams that read off the same word at every input number are the same.
use Prim.Native.Nat.{ℕ, zero, suc, ◌+◌, ◌*◌, ◌/◌, ◌%◌, ◌^◌, ◌<◌}
use native.Mathlib.Nat.{eq-or-lt_of_le, le_of_suc-le-suc}
use native.Mathlib.Omega.{arith}
use mathlib.Core.Path.{◌≡◌, refl, sym, ap, ap₂, ◌∙◌}
use mathlib.Core.Bool.{true}
use mathlib.Core.Logic.{⊎_elim}
use lib.Arith.{digits_lt, digits_div, digits_mod}
use Rattle.diagram.specs.declared.Diagram.{Diagram}
use Rattle.diagram.specs.Diagram.{Input, input_of, value_at, word_of, word_at}
use Rattle.diagram.specs.Questions.{in_range}
use Rattle.diagram.proofs.Inputs.{input_number}
use Rattle.diagram.proofs.Paths.{value_same, value-bit}
use Rattle.diagram.proofs.Unique.{Reduced, Same, unique}

-- The first m values are 0 or 1.
abbrev pub Bits : (ℕ → ℕ) → ℕ → Type 0
Bits value m = (j : ℕ) → j < m → value j < 2

word_below : (value : ℕ → ℕ) (m : ℕ) → Bits value m → word_of value m < 2 ^ m
unfolding word_of
word_below value zero b = omega arith
word_below value (suc m) b =
    omega (arith, digits_lt (b m (omega arith)) (word_below value m (λ j h. b j (omega arith))))

digits : (c v v' w w' : ℕ) → w < c → w' < c → w + v * c ≡ w' + v' * c → (v ≡ v') × (w ≡ w')
digits c v v' w w' h h' p =
    let q : v * c + w ≡ v' * c + w' = omega arith in (
      sym (digits_div v h) ∙ ap (λ k. k / c) q ∙ digits_div v' h',
      sym (digits_mod v h) ∙ ap (λ k. k % c) q ∙ digits_mod v' h',
    )

-- A word determines the values.
pub word-values : (f g : ℕ → ℕ) (m : ℕ) → Bits f m → Bits g m → word_of f m ≡ word_of g m → (j : ℕ) → j < m → f j ≡ g j
unfolding word_of
word-values f g zero bf bg w j h = absurd (omega arith)
word-values f g (suc m) bf bg w j h =
    let rf : Bits f m = λ i h. bf i (omega arith) in
    let rg : Bits g m = λ i h. bg i (omega arith) in
    let (v, low) = digits (2 ^ m) _ _ _ _ (word_below f m rf) (word_below g m rg) w in
    ⊎_elim (λ q. ap f q ∙ v ∙ ap g (sym q)) (word-values f g m rf rg low j) (eq-or-lt_of_le (le_of_suc-le-suc h))

-- The values determine the word.
pub word_same : (f g : ℕ → ℕ) (m : ℕ) → ((j : ℕ) → j < m → f j ≡ g j) → word_of f m ≡ word_of g m
unfolding word_of
word_same f g zero h = refl
word_same f g (suc m) h =
    ap₂ (λ (w b : ℕ). w + b * 2 ^ m) (word_same f g m (λ j l. h j (omega arith))) (h m (omega arith))

module _ (d e : Diagram) where
  pub functions-equal : in_range d ≡ true → in_range e ≡ true → d.contacts ≡ e.contacts → d.outputs ≡ e.outputs →
      ((a : ℕ) → a < 2 ^ d.contacts → word_at d (input_of a) d.outputs ≡ word_at e (input_of a) d.outputs) →
      (x : Input) (j : ℕ) → j < d.outputs → value_at d x j ≡ value_at e x j
  functions-equal rd re n m words x j h =
      let (a, l, same) = input_number x d.contacts in
      let y = input_of a in
      sym (value_same d y x j same)
      ∙ word-values (value_at d y) (value_at e y) d.outputs (value-bit d rd y) (λ i k. value-bit e re y i (omega arith)) (words a l) j h
      ∙ value_same e y x j (λ i k. same i (omega arith))

  pub same-words : Reduced d → Reduced e → d.contacts ≡ e.contacts → d.outputs ≡ e.outputs →
      ((a : ℕ) → a < 2 ^ d.contacts → word_at d (input_of a) d.outputs ≡ word_at e (input_of a) d.outputs) → Same d e
  same-words rd re n m words = unique d e rd re n m (functions-equal rd.ranged re.ranged n m words)
