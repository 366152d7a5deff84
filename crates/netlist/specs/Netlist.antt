-- Netlists, and their files: five bytes a gate, four bytes an output and a lamp, three bytes a hold.
use Rattle.std.specs.Prelude.{ℕ, ◌+◌, ◌*◌, ◌/◌, ◌%◌, Bool, false, ◌||◌, eqb, length, get_or}
use mathlib.Core.List.{List, [], ◌∷◌, flat_map}
use Rattle.fields.specs.Bounded.{listed}
use Rattle.fields.specs.Fields.{number_of, Item, encoded}
use Rattle.netlist.specs.declared.Gate.{Gate}
use Rattle.netlist.specs.declared.Pair.{Pair}
use Rattle.netlist.specs.declared.Hold.{Hold}

-- The pairs are the outputs'. The lamp, in the field a two-rail checker, is one pair for all of them: a list of just its pair, or of none.
pub record Netlist : Type 0 where
  pub contacts : ℕ
  pub gates : List Gate
  pub pairs : List Pair
  pub lamp : List Pair

-- The first gate's line, and the line after the last.
abbrev pub gate_line : ℕ → ℕ
gate_line n = 2 + 2 * n

abbrev pub line_count : Netlist → ℕ
line_count net = gate_line net.contacts + length net.gates

-- Whether some element of a list passes.
unfoldable pub any_of : {A : Type 0} → (A → Bool) → List A → Bool
any_of p [] = false
any_of p (x ∷ xs) = p x || any_of p xs

-- Whether some gate or output reads a line.
unfoldable pub is_read : Netlist → ℕ → Bool
is_read net line =
    any_of (λ (g : Gate). eqb g.left line || eqb g.right line) net.gates
    || any_of (λ (p : Pair). eqb p.on line || eqb p.off line) net.pairs

-- Every two-byte number has its high byte first.
abbrev pub number_at : List ℕ → ℕ → ℕ
number_at v i = number_of (get_or v i 0) (get_or v (i + 1) 0)

-- Gate g: kind (0 AND, 1 OR), then two source lines of two bytes each.
abbrev pub gate_at : List ℕ → ℕ → Gate
gate_at v g = record { kind = get_or v (5 * g) 0; left = number_at v (5 * g + 1); right = number_at v (5 * g + 3) }

-- Output j: its true line, then its false line.
abbrev pub pair_at : List ℕ → ℕ → Pair
pair_at v j = record { on = number_at v (4 * j); off = number_at v (4 * j + 2) }

-- Hold i: a line, then its value byte.
abbrev pub hold_at : List ℕ → ℕ → Hold
hold_at v i = record { line = number_at v (3 * i); value = get_or v (3 * i + 2) 0 }

-- What a hold holds, and at which value: site 0 is its line, sites 1 and 2 are the first and the second pin of its line's gate.
abbrev pub site_of : Hold → ℕ
site_of h = h.value / 2

abbrev pub level_of : Hold → ℕ
level_of h = h.value % 2

unfoldable pub gates_of : List ℕ → List Gate
gates_of v = listed (gate_at v) (length v / 5) 0

unfoldable pub pairs_of : List ℕ → List Pair
pairs_of v = listed (pair_at v) (length v / 4) 0

unfoldable pub holds_of : List ℕ → List Hold
holds_of v = listed (hold_at v) (length v / 3) 0

-- A netlist from its parts, and one without a lamp from the bytes of its gates and outputs.
abbrev pub net_with : ℕ → List Gate → List Pair → List Pair → Netlist
net_with n gates pairs lamp = record { contacts = n; gates = gates; pairs = pairs; lamp = lamp }

abbrev pub net_of : ℕ → List ℕ → List ℕ → Netlist
net_of n gates pairs = net_with n (gates_of gates) (pairs_of pairs) []

-- The bytes of a gate, of an output or a lamp, and of a hold.
abbrev pub gate_bytes : Gate → List ℕ
gate_bytes g = g.kind ∷ g.left / 256 ∷ g.left % 256 ∷ g.right / 256 ∷ g.right % 256 ∷ []

abbrev pub pair_bytes : Pair → List ℕ
pair_bytes p = p.on / 256 ∷ p.on % 256 ∷ p.off / 256 ∷ p.off % 256 ∷ []

abbrev pub hold_bytes : Hold → List ℕ
hold_bytes h = h.line / 256 ∷ h.line % 256 ∷ h.value ∷ []

-- The field of a lamp's bytes; none without a lamp.
abbrev pub lamp_field : List ℕ → List Item
lamp_field [] = []
lamp_field (b ∷ bs) = record { tag = 6; value = b ∷ bs } ∷ []

-- The file of a netlist of n contacts whose gates, outputs and lamp have these bytes, and of a netlist.
unfoldable pub file_with : ℕ → List ℕ → List ℕ → List ℕ → List ℕ
file_with n gates pairs lamp =
    encoded
    (record { tag = 1; value = n ∷ [] } ∷ record { tag = 4; value = gates } ∷ record { tag = 5; value = pairs } ∷ lamp_field lamp)

unfoldable pub file_of : Netlist → List ℕ
file_of net =
    file_with net.contacts (flat_map gate_bytes net.gates) (flat_map pair_bytes net.pairs) (flat_map pair_bytes net.lamp)
