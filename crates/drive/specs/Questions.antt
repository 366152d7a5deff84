-- Questions 13, 14 and 21, about what a netlist is run with and from where.
use Rattle.std.specs.Prelude.{ℕ, zero, suc, ◌+◌, ◌*◌, ◌/◌, ◌%◌, Bool, ◌&&◌, ◌||◌, cond, List, leb, ltb, eqb, length, get_or}
use Rattle.fields.specs.Bounded.{all}
use Rattle.netlist.specs.declared.Hold.{Hold}
use Rattle.netlist.specs.Netlist.{hold_at, site_of}
use Rattle.drive.specs.declared.Rails.{Rails}
use Rattle.drive.specs.declared.Rails.TheVariants.{Driven, Undriven}
use Rattle.drive.specs.declared.Holds.{Holds}
use Rattle.drive.specs.declared.Holds.TheVariants.{Ordered, Disordered}
use Rattle.drive.specs.declared.Place.{Place}
use Rattle.drive.specs.declared.Place.TheVariants.{Within, Outside}

abbrev pub is_bit : List ℕ → ℕ → Bool
is_bit bytes i = leb (get_or bytes i 0) 1

-- 13. Are there 2n rail bytes, in line order, each 0 or 1? No: 13.
abbrev pub rails_of : ℕ → List ℕ → Rails
rails_of n rails = cond (eqb (length rails) (2 * n) && all (2 * n) (is_bit rails)) Driven Undriven

abbrev pub rails_number : Rails → ℕ
rails_number Driven = 0
rails_number Undriven = 13

-- Where a hold stands in a hold list: lines first, rising, then pins by rising gate, the first before the second.
abbrev pub rank_of : Hold → ℕ
rank_of h = cond (leb h.value 1) h.line (65536 + 2 * h.line + site_of h)

-- The rank of the hold before hold i; the first comes after line 1.
abbrev pub rank_before : List ℕ → ℕ → ℕ
rank_before holds zero = 1
rank_before holds (suc i) = rank_of (hold_at holds i)

-- A hold on a netlist of so many lines, whose first gate is line first, after a hold of rank before: value 0 or 1 holds a line, 2 to 5
-- a pin, which is never a rail's.
abbrev pub is_hold : ℕ → ℕ → ℕ → Hold → Bool
is_hold first lines before hold =
    ltb before (rank_of hold) && ltb hold.line lines && leb hold.value 5 && (leb hold.value 1 || leb first hold.line)

abbrev pub are_holds : ℕ → ℕ → List ℕ → Bool
are_holds first lines holds = all (length holds / 3) (λ i. is_hold first lines (rank_before holds i) (hold_at holds i))

-- 14. Are the holds whole, each naming a line from 2 up that is in the netlist, or a pin of a gate that is, line holds first, rising, then
-- pins by rising gate, first before second, each pin once and never of a rail? No: 14.
unfoldable pub are_ordered : ℕ → ℕ → List ℕ → Bool
are_ordered first lines holds = eqb (length holds % 3) 0 && are_holds first lines holds

abbrev pub order_of : ℕ → ℕ → List ℕ → Holds
order_of first lines holds = cond (are_ordered first lines holds) Ordered Disordered

abbrev pub holds_number : Holds → ℕ
holds_number Ordered = 0
holds_number Disordered = 14

-- 21. Is a step's place a line from 2 up that is in the netlist, or the line after the last? No: 21.
abbrev pub place_of : ℕ → ℕ → Place
place_of lines place = cond (leb 2 place && leb place lines) Within Outside

abbrev pub place_number : Place → ℕ
place_number Within = 0
place_number Outside = 21
