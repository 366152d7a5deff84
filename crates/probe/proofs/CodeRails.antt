-- The rails of a code input, written contact by contact.
use Prim.Native.Nat.{ℕ, ◌+◌, ◌-◌, ◌≤◌, ◌<◌}
use native.Mathlib.Nat.{eq-or-lt_of_le}
use native.Mathlib.Numerals.{add-one}
use native.Mathlib.Omega.{arith}
use mathlib.Core.Path.{◌≡◌, sym, ap₂, ◌∙◌}
use mathlib.Core.Bool.{Bool, true, false, not}
use mathlib.Core.List.{List, [], ◌∷◌, ◌++◌}
use mathlib.Core.Logic.{⊎_elim}
use lib.ListN.{length, take, set}
use Rattle.std.proofs.lemmas.Grind.{flat_map-append}
use Rattle.std.proofs.lemmas.List.{take-set-le, take_more_set}
use Rattle.std.specs.List.{flat_map}
use Rattle.diagram.specs.Diagram.{bit, input_of}
use Rattle.rules.specs.Code.{code_rails}
use Rattle.bits.specs.Inner.Bits.{bit_of}
use Rattle.bits.proofs.Rails.{input-bit}

other : (b : Bool) (on : ℕ) → bit b ≡ on → 1 - on ≡ bit (not b)
other true on e = omega arith
other false on e = omega arith

-- The first contacts' pairs are their rails in line order.
abbrev pub AreRails : ℕ → ℕ → List (List ℕ) → Type 0
AreRails count a pairs = (n : ℕ) → n ≤ count → flat_map (λ x. x) (take n pairs) ≡ code_rails n (input_of a)

-- One contact more.
pub code-more : (a i on : ℕ) (pairs : List (List ℕ)) → i < length pairs → on ≡ bit_of i a → AreRails i a pairs →
    AreRails (i + 1) a (set pairs i (on ∷ (1 - on) ∷ []))
unfolding code_rails
code-more a i on pairs l e are n h =
    let same : bit (input_of a i) ≡ on = input-bit a i ∙ sym e in
    ⊎_elim (λ q.
    rw (q, take_more_set pairs i (on ∷ (1 - on) ∷ []) l, flat_map-append {A = ℕ} (λ x. x) (take i pairs) ((on ∷ (1 - on) ∷ []) ∷ []), are i (omega arith), add-one i)
    (ap₂ (λ (x y : ℕ). code_rails i (input_of a) ++ (x ∷ y ∷ [])) (sym same) (other (input_of a i) on same)))
    (λ m. rw (take-set-le n pairs i (on ∷ (1 - on) ∷ []) (omega arith)) (are n (omega arith))) (eq-or-lt_of_le h)
