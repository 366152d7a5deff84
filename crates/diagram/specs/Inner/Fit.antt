-- The limits that keep the code within the arrays of a diagram.
use Rattle.std.specs.Prelude.{ℕ, ◌≤◌, ◌<◌}
use Rattle.diagram.specs.declared.Diagram.{Diagram}
use Rattle.diagram.specs.Diagram.{width}

-- Levels within the room for 12 of 8 nodes.
pub record Fit (d : Diagram) : Type 0 where
  pub contacts : (1 ≤ d.contacts) × (d.contacts ≤ 12)
  pub nodes : (l : ℕ) → l < d.contacts → width d l ≤ 8
