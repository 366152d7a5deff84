-- A worked table: two contacts, both closed and one of them closed. It shows the numbering by first mention and the sequence of halves.
use Prim.Native.Nat.{ℕ, zero, suc}
use mathlib.Core.Path.{◌≡◌, refl}
use mathlib.Core.Bool.{◌&&◌, ◌||◌}
use mathlib.Core.List.{[], ◌∷◌}
use Rattle.fields.specs.Bounded.{listed}
use Rattle.fields.specs.Fields.{encoded}
use Rattle.diagram.specs.Diagram.{bit, Input}
use Rattle.table.specs.Encode.{bytes_of}
use Rattle.functions.specs.Functions.{same, tree, functions_of, place, firsts, level_of, canonical}

both-or-one : ℕ → Input → ℕ
both-or-one zero x = bit (x 0 && x 1)
both-or-one (suc j) x = bit (x 0 || x 1)

-- In level 1 the constant 0 is node 0, contact 1 node 1, the constant 1 node 2.
both-or-one-table : bytes_of (canonical 2 2 (functions_of 2 both-or-one))
    ≡ 1 ∷ 0 ∷ 1 ∷ 2 ∷ 2 ∷ 0 ∷ 2 ∷ 0 ∷ 1 ∷ 3 ∷ 0 ∷ 4 ∷ 0 ∷ 1 ∷ 1 ∷ 2 ∷ 3 ∷ 0 ∷ 6 ∷ 0 ∷ 0 ∷ 0 ∷ 1 ∷ 1 ∷ 1 ∷ []
unfolding bytes_of encoded listed same tree place firsts level_of both-or-one
both-or-one-table = refl
