-- The gates' sources as a hold leaves them.
use Rattle.std.specs.Prelude.{ℕ, ◌+◌, ◌<◌, ◌≡◌, List, get_or}
use Rattle.netlist.specs.declared.Gate.{Gate}
use Rattle.netlist.specs.declared.Hold.{Hold}
use Rattle.netlist.specs.Netlist.{gate_at}
use Rattle.batches.specs.Inner.Batches.{source_of}
use Rattle.search.specs.declared.passes.Sources.{Sources}

-- A gate's sources as a hold leaves them: the line of the held value's constant in the place of what it holds.
abbrev pub held_sources : Hold → ℕ → Gate → Sources
held_sources h line g = record { left = source_of h line 1 g.left; right = source_of h line 2 g.right }

-- The first gates' sources, as a hold leaves them.
abbrev pub blank : Sources
blank = record { left = 0; right = 0 }

abbrev pub SourcesTaken : ℕ → Hold → ℕ → List ℕ → List Sources → Type 0
SourcesTaken first h count gates taken = (g : ℕ) → g < count → get_or taken g blank ≡ held_sources h (first + g) (gate_at gates g)
