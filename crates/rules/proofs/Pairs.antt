-- The pairs of a diagram's board, output by output.
use Prim.Native.Nat.{ℕ, ◌<◌}
use native.Mathlib.Nat.{zero-add}
use mathlib.Core.Path.{◌≡◌, ap, ◌∙◌}
use lib.ListN.{length, get_or}
use Rattle.diagram.specs.declared.Diagram.{Diagram}
use Rattle.diagram.specs.Diagram.{root}
use Rattle.netlist.specs.declared.Pair.{Pair}
use Rattle.fields.proofs.Listed.{length-listed, get_or-listed}
use Rattle.rules.specs.declared.Entry.{Entry}
use Rattle.rules.specs.Blocks.{entry_at}
use Rattle.rules.specs.Board.{whole_block, pair_of, board_of}

-- The entry of output j's node in a column of the whole block, and the output's pair.
abbrev pub whole_entry : Diagram → ℕ → ℕ → Entry
whole_entry d j v = entry_at (whole_block d).1 (root d j) v

abbrev pub pair : Diagram → ℕ → Pair
pair d j = pair_of d (whole_block d).1 j

module _ (d : Diagram) where
  pub pairs-length : length (board_of d).pairs ≡ d.outputs
  unfolding board_of
  pairs-length = length-listed (pair d) d.outputs 0

  pub pairs-at : (j : ℕ) (none : Pair) → j < d.outputs → get_or (board_of d).pairs j none ≡ pair d j
  unfolding board_of
  pairs-at j none h = get_or-listed (pair d) d.outputs 0 j none h ∙ ap (pair d) (zero-add j)
