-- Steps one after the other, each with a hold list of its own, and which of their holds count.
use Rattle.std.specs.Prelude.{ℕ, ◌≡◌, Bool, ◌&&◌, cond, not, leb, ltb}
use mathlib.Core.List.{List, [], ◌∷◌, ◌++◌, flat_map}
use Rattle.netlist.specs.declared.Hold.{Hold}
use Rattle.netlist.specs.Netlist.{holds_of, hold_bytes}
use Rattle.simulation.specs.Service.{Stepping, step_of}

-- The elements of a list that pass.
unfoldable pub passing : {A : Type 0} → (A → Bool) → List A → List A
passing p [] = []
passing p (x ∷ xs) = cond (p x) (x ∷ passing p xs) (passing p xs)

-- The holds that count in a step from one place to another: those that name a line which it works out, or a pin of that line's gate.
abbrev pub counted_in : ℕ → ℕ → List Hold → List Hold
counted_in from to = passing (λ (h : Hold). leb from h.line && ltb h.line to)

-- Steps that were accepted, of one netlist with the same rails, the first from line 2 with a line buffer as it came, each further one
-- with the place and the line buffer that the one before it left: the holds that counted in them, the pairs buffer lent to the last
-- one, and what that one returned and left.
pub data Steps (file rails lines : List ℕ) : List Hold → List ℕ → Stepping → Type 0 where
  first : (holds : List ℕ) (count : ℕ) (pairs : List ℕ) (s : Stepping) → s ≡ step_of file rails holds 2 count lines pairs →
      s.refusal ≡ 0 → Steps file rails lines (counted_in 2 s.place (holds_of holds)) pairs s
  next : (counted : List Hold) (others : List ℕ) (r : Stepping) → Steps file rails lines counted others r →
      (holds : List ℕ) (count : ℕ) (pairs : List ℕ) (s : Stepping) → s ≡ step_of file rails holds r.place count r.lines pairs →
      s.refusal ≡ 0 → Steps file rails lines (counted ++ counted_in r.place s.place (holds_of holds)) pairs s

-- The hold list of holds, as question 14 wants it: those of lines first, then those of pins.
abbrev pub hold_list : List Hold → List ℕ
hold_list holds =
    let of_line : Hold → Bool = λ h. leb h.value 1 in
    flat_map hold_bytes (passing of_line holds ++ passing (λ (h : Hold). not (of_line h)) holds)
