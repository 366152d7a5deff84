-- Depths from the bytes of gates.
use Rattle.std.specs.Prelude.{ℕ, ◌+◌, ◌<◌, List, map, replicate}
use Rattle.netlist.specs.Netlist.{gate_at}
use Rattle.fields.specs.Bounded.{listed}
use Rattle.simulation.specs.Run.{gate, work_out}
use Rattle.rules.specs.Board.{depth_rule}

-- The depths of the lines where `first` rails and constants are followed by so many gates, five bytes each.
unfoldable pub depths_from : List ℕ → ℕ → ℕ → List ℕ
depths_from gates first count = work_out depth_rule (map gate (listed (gate_at gates) count 0)) (replicate first 0)

-- Every source of the gates is a line below its gate's own, where gate g is on line first + g.
pub record SourcesBelow (gates : List ℕ) (first count : ℕ) : Type 0 where
  pub at : (g : ℕ) → g < count → ((gate_at gates g).left < first + g) × ((gate_at gates g).right < first + g)
