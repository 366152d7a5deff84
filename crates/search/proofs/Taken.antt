-- The gates' sources as a hold leaves them, one gate after the other.
use Prim.Native.Nat.{ℕ, ◌+◌, ◌<◌}
use native.Mathlib.Nat.{eq-or-lt_of_le}
use native.Mathlib.Omega.{arith}
use mathlib.Core.Path.{◌≡◌, ◌∙◌}
use mathlib.Core.List.{List}
use mathlib.Core.Logic.{⊎_elim}
use lib.ListN.{length, set}
use lib.Seq.{get_or-set_same, get_or-set_other}
use Rattle.netlist.specs.declared.Hold.{Hold}
use Rattle.netlist.specs.Netlist.{gate_at}
use Rattle.search.specs.declared.passes.Sources.{Sources}
use Rattle.search.specs.Inner.Taken.{blank, held_sources, SourcesTaken}

-- A gate more.
pub taken-more : (first : ℕ) (h : Hold) (gates : List ℕ) (taken : List Sources) (g : ℕ) (x : Sources) → g < length taken →
    x ≡ held_sources h (first + g) (gate_at gates g) → SourcesTaken first h g gates taken → SourcesTaken first h (g + 1) gates (set taken g x)
taken-more first h gates taken g x room e before =
    λ i l.
    ⊎_elim (λ q. rw q (get_or-set_same taken g x blank room ∙ e))
    (λ m. get_or-set_other taken g i x blank (λ q. omega arith) ∙ before i m) (eq-or-lt_of_le (omega arith))
