-- Code inputs: every contact's pair of rails is at 10 or 01.
use Rattle.std.specs.Prelude.{ℕ, zero, suc, not, List, [], ◌∷◌, ◌++◌}
use Rattle.diagram.specs.Diagram.{Input, bit}

-- The rails of a code input of n contacts, in line order: each contact's true rail, then its false rail.
unfoldable pub code_rails : ℕ → Input → List ℕ
code_rails zero x = []
code_rails (suc n) x = code_rails n x ++ (bit (x n) ∷ bit (not (x n)) ∷ [])
