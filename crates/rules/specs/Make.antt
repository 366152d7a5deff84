-- Making gates: given the first free line, the gates that are made and a result.
use Rattle.std.specs.Prelude.{ℕ, zero, suc, ◌+◌, List, [], ◌∷◌, ◌++◌, length}
use Rattle.netlist.specs.declared.Gate.{Gate}

abbrev pub Make : Type 0 → Type 0
Make A = ℕ → List Gate × A

abbrev pub return : {A : Type 0} → A → Make A
return a next = ([], a)

infixl 10 ◌>>=◌
-- The gates of m come first, then those of what follows from its result.
unfoldable pub ◌>>=◌ : {A B : Type 0} → Make A → (A → Make B) → Make B
◌>>=◌ m f next =
    let r = m next in
    let s = f r.1 (next + length r.0) in
    (r.0 ++ s.0, s.1)

-- One gate of a kind (0 AND, 1 OR), named by its own line.
abbrev pub gate : ℕ → ℕ → ℕ → Make ℕ
gate kind a b next = (record { kind = kind; left = a; right = b } ∷ [], next)

-- What f makes at so many places from p on, in sequence.
unfoldable pub sequence : {A : Type 0} → (ℕ → Make A) → ℕ → ℕ → Make (List A)
sequence f zero p = return []
sequence f (suc count) p = do
  a ← f p
  rest ← sequence f count (suc p)
  return (a ∷ rest)
