-- The formulas for a board's gates and depth.
use Rattle.std.specs.Prelude.{ℕ, zero, suc, ◌+◌, ◌*◌, ◌-◌, ◌^◌, max, cond, leb}
use Rattle.diagram.specs.declared.Diagram.{Diagram}
use Rattle.diagram.specs.Diagram.{width}

-- The largest width of the levels from 0 to l.
unfoldable pub widest_to : Diagram → ℕ → ℕ
widest_to d zero = width d 0
widest_to d (suc l) = max (widest_to d l) (width d (suc l))

-- The largest width; level n counts.
unfoldable pub widest : Diagram → ℕ
widest d = widest_to d d.contacts

-- The least power of 2 that is n or more, looked for from k on in so many steps.
unfoldable pub least_power : ℕ → ℕ → ℕ → ℕ
least_power zero k n = k
least_power (suc steps) k n = cond (leb n (2 ^ k)) k (least_power steps (suc k) n)

-- The least k with n ≤ 2 ^ k.
unfoldable pub log2up : ℕ → ℕ
log2up n = least_power n 0 n

-- The most gates of one product where no level has more than w nodes.
abbrev pub product_most : ℕ → ℕ
product_most w = w * w * (2 * w - 1)

-- The most gates of a board, and its largest depth.
unfoldable pub gates_most : Diagram → ℕ
gates_most d = (d.contacts - 1) * product_most (widest d)

unfoldable pub depth_most : Diagram → ℕ
depth_most d = log2up d.contacts * (1 + log2up (widest d))
