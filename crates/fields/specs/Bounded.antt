-- What goes over so many numbers: tests of each, the least that passes, and the list of what each gives.
use Rattle.std.specs.Prelude.{ℕ, zero, suc, Bool, true, false, ◌&&◌, ◌||◌, List, [], ◌∷◌}

-- Whether each number below k passes.
unfoldable pub all : ℕ → (ℕ → Bool) → Bool
all zero p = true
all (suc k) p = all k p && p k

-- Whether some number below k passes.
unfoldable pub any : ℕ → (ℕ → Bool) → Bool
any zero p = false
any (suc k) p = any k p || p k

-- The least number from i on that passes, among so many.
unfoldable pub least_from : ℕ → (ℕ → Bool) → ℕ → ℕ
least_from zero p i = i
least_from (suc count) p i = elim (p i) [ true ↦ i | false ↦ least_from count p (suc i) ]

-- The least number below k that passes, or k.
abbrev pub least : ℕ → (ℕ → Bool) → ℕ
least k p = least_from k p 0

-- What f gives at so many places from i on.
unfoldable pub listed : {A : Type 0} → (ℕ → A) → ℕ → ℕ → List A
listed f zero i = []
listed f (suc count) i = f i ∷ listed f count (suc i)
