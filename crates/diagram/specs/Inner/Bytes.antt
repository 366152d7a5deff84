-- Nodes whose edges stand in a list of bytes from a place on.
use Rattle.std.specs.Prelude.{ℕ, ◌+◌, ◌*◌, Bool, false, true, not, List, eqb, get_or}
use Rattle.diagram.specs.Diagram.{bit}

-- The 0-edge or the 1-edge of node u.
abbrev pub edge_in : List ℕ → ℕ → ℕ → Bool → ℕ
edge_in bytes from u b = get_or bytes (from + (2 * u + bit b)) 0

-- Whether node u's edges differ.
abbrev pub is_fork_at : List ℕ → ℕ → ℕ → Bool
is_fork_at bytes from u = not (eqb (edge_in bytes from u false) (edge_in bytes from u true))
