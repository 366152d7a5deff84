-- The run rule on three values: low (0), not yet (2) and high (1), in this order.
use Rattle.std.specs.Prelude.{ℕ, Bool, ◌||◌, cond, List, eqb}
use Rattle.netlist.specs.declared.Hold.{Hold}
use Rattle.simulation.specs.Run.{Rule, held}

-- Whether a is at most b.
abbrev pub is_below : ℕ → ℕ → Bool
is_below a b = eqb a 0 || eqb b 1

-- AND (kind 0) is the lesser, OR the greater.
abbrev pub late_gate : ℕ → ℕ → ℕ → ℕ
late_gate kind a b = cond (eqb kind 0) (cond (is_below a b) a b) (cond (is_below a b) b a)

-- The run rule of a hold list on them.
abbrev pub late_holding : List Hold → Rule ℕ
late_holding holds =
    record {
      op = λ line kind a b. late_gate kind (held holds line 1 a) (held holds line 2 b);
      shows = λ line v. held holds line 0 v;
      none = 0;
    }
