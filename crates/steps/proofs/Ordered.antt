-- The holds that counted in steps, as a hold list: question 14 says yes of it.
use native.Mathlib.Omega.{arith}
use Prim.Native.Nat.{ℕ, ◌+◌, ◌*◌, ◌-◌, ◌≤◌, ◌<◌}
use mathlib.Core.Path.{◌≡◌}
use mathlib.Core.Bool.{Bool, true}
use mathlib.Core.List.{List, [], ◌++◌}
use Rattle.fields.proofs.Every.{Every, every_append, every-weaken}
use Rattle.netlist.specs.declared.Hold.{Hold}
use Rattle.drive.specs.Questions.{rank_of, are_ordered}
use Rattle.drive.proofs.Tests.{rank-line, rank-pin}
use Rattle.steps.specs.Steps.{passing, counted_in, hold_list}
use Rattle.steps.proofs.Passing.{passing-append, every-passing}
use Rattle.steps.proofs.Sites.{inside, inside_is, counted-within, of_line, of_pin, is-line, is-pin}
use Rattle.steps.proofs.Rising.{Rising, are-ordered, rising-values, rising-after, rising-passing, rising-append}

-- A hold of a line before a place, or of a pin of its gate.
abbrev pub Before : ℕ → Hold → Type 0
Before place h = (h.line < place) × (h.value ≤ 5)

module _ (first lines : ℕ) where
  abbrev Rises : ℕ → List Hold → Type 0
  Rises = Rising first lines

  -- Holds before a place of which the lines' rise and the pins' do.
  pub record Ranked (place : ℕ) (counted : List Hold) : Type 0 where
    pub before : Every (Before place) counted
    pub lined : Rises 1 (passing of_line counted)
    pub pinned : Rises 65536 (passing of_pin counted)

  pub none-ranked : (place : ℕ) → Ranked place []
  unfolding passing
  none-ranked place = record { before = tt; lined = tt; pinned = tt }

  -- With the holds that count in a step from the place on: a rank parts those of a kind from the earlier ones of that kind.
  module _ (counted : List Hold) (place to : ℕ) (holds : List Hold) (from : 2 ≤ place) (before : Every (Before place) counted)
      (rises : Rises 1 holds) where
    abbrev new : List Hold
    new = counted_in place to holds

    module _ (p : Hold → Bool) (low mark : ℕ) (above : low ≤ mark) (earlier : (h : Hold) → p h ≡ true → Before place h → rank_of h ≤ mark)
        (later : (h : Hold) → p h ≡ true → (place ≤ h.line) × (h.line < to) → mark < rank_of h) where
      more_of : Rises low (passing p counted) → Rises low (passing p (counted ++ new))
      more_of r =
          rw (passing-append p counted new)
          (rising-append first lines low mark (passing p counted) (passing p new) above r
          (every-passing p (Before place) (λ h. rank_of h ≤ mark) earlier counted before)
          (rising-after first lines 1 mark (passing p new)
          (rising-passing first lines p 1 new (rising-passing first lines (inside place to) 1 holds rises))
          (every-passing p (λ (h : Hold). (place ≤ h.line) × (h.line < to)) (λ h. mark < rank_of h) later new
          (counted-within place to holds))))

    more-lines : Rises 1 (passing of_line counted) → Rises 1 (passing of_line (counted ++ new))
    more-lines =
        more_of of_line 1 (place - 1) (omega arith) (λ h t b. omega (arith, rank-line h (is-line h t), b.0))
        (λ h t b. omega (arith, rank-line h (is-line h t), b.0))

    more-pins : Rises 65536 (passing of_pin counted) → Rises 65536 (passing of_pin (counted ++ new))
    more-pins =
        more_of of_pin 65536 (65536 + 2 * place) (omega arith) (λ h t b. omega (arith, rank-pin h (is-pin h t), b.0, b.1))
        (λ h t b. omega (arith, rank-pin h (is-pin h t), is-pin h t, b.0))

    more-before : place ≤ to → Every (Before to) (counted ++ new)
    more-before l =
        every_append (Before to) counted new (every-weaken (Before place) (Before to) (λ h b. (omega (arith, b.0), b.1)) counted before)
        (every-passing (inside place to) (λ (h : Hold). h.value ≤ 5) (Before to) (λ h t few. ((inside_is place to h t).1, few)) holds
        (rising-values first lines 1 holds rises))

  pub ranked-more : (counted : List Hold) (place to : ℕ) (holds : List Hold) → 2 ≤ place → place ≤ to → Ranked place counted →
      Rises 1 holds → Ranked to (counted ++ counted_in place to holds)
  ranked-more counted place to holds from l r rises =
      record {
        before = more-before counted place to holds from r.before rises l;
        lined = more-lines counted place to holds from r.before rises r.lined;
        pinned = more-pins counted place to holds from r.before rises r.pinned;
      }

  pub list-ordered : (counted : List Hold) (place : ℕ) → place ≤ 65536 → Ranked place counted →
      are_ordered first lines (hold_list counted) ≡ true
  list-ordered counted place l r =
      are-ordered first lines (passing of_line counted ++ passing of_pin counted)
      (rising-append first lines 1 65536 (passing of_line counted) (passing of_pin counted) (omega arith) r.lined
      (every-passing of_line (Before place) (λ h. rank_of h ≤ 65536) (λ h t b. omega (arith, rank-line h (is-line h t), b.0)) counted
      r.before)
      r.pinned)
