-- The run rule: a rail has its byte, a gate the AND or OR of its pins' values, a pin its source's value, holds going before all of them.
use Rattle.std.specs.Prelude.{ℕ, min, max, ◌&&◌, cond, eqb, length, get_or}
use mathlib.Core.List.{List, [], ◌∷◌, ◌++◌, map, flat_map}
use Rattle.netlist.specs.declared.Gate.{Gate}
use Rattle.netlist.specs.declared.Pair.{Pair}
use Rattle.netlist.specs.declared.Hold.{Hold}
use Rattle.netlist.specs.Netlist.{Netlist, site_of, level_of}

-- What drives a line.
pub data Driver (A : Type 0) : Type 0 where
  rail : A → Driver A
  gate : Gate → Driver A

-- How values are worked out: what the gate of a line, of a kind, makes of its sources' values, and what a line shows, given what its
-- driver makes.
pub record Rule (A : Type 0) : Type 0 where
  pub op : ℕ → ℕ → A → A → A
  pub shows : ℕ → A → A
  pub none : A

unfoldable pub drive : {A : Type 0} → Rule A → List A → Driver A → A
drive r vs (rail a) = a
drive r vs (gate g) = r.op (length vs) g.kind (get_or vs g.left r.none) (get_or vs g.right r.none)

-- The lines' values from line 0 up: those known so far, then one for each further driver.
unfoldable pub work_out : {A : Type 0} → Rule A → List (Driver A) → List A → List A
work_out r [] vs = vs
work_out r (d ∷ ds) vs = work_out r ds (vs ++ (r.shows (length vs) (drive r vs d) ∷ []))

-- AND (kind 0) and OR of the values 0 and 1.
abbrev pub gate_of : ℕ → ℕ → ℕ → ℕ
gate_of kind a b = cond (eqb kind 0) (min a b) (max a b)

-- What a site of a line has that would have value v: its held value if it is held.
unfoldable pub held : List Hold → ℕ → ℕ → ℕ → ℕ
held [] line site v = v
held (h ∷ hs) line site v = cond (eqb h.line line && eqb (site_of h) site) (level_of h) (held hs line site v)

-- The run rule of a hold list: a gate makes AND or OR of what its two pins have, and a line shows what it has.
abbrev pub holding : List Hold → Rule ℕ
holding holds =
    record {
      op = λ line kind a b. gate_of kind (held holds line 1 a) (held holds line 2 b);
      shows = λ line v. held holds line 0 v;
      none = 0;
    }

-- What drives the lines past the constants: the rails, then the gates.
abbrev pub drivers_of : List ℕ → List Gate → List (Driver ℕ)
drivers_of rails gates = map rail rails ++ map gate gates

-- Every line's value, from line 0 up: the constants, the rails, the gates.
unfoldable pub values_of : Netlist → List ℕ → List Hold → List ℕ
values_of net rails holds = work_out (holding holds) (drivers_of rails net.gates) (0 ∷ 1 ∷ [])

-- Each pair: the values of its true and its false line.
unfoldable pub shown_of : List Pair → List ℕ → List ℕ
shown_of pairs vs = flat_map (λ (p : Pair). get_or vs p.on 0 ∷ get_or vs p.off 0 ∷ []) pairs

-- Each output's pair, and last the lamp's.
abbrev pub shown_by : Netlist → List ℕ → List ℕ
shown_by net vs = shown_of net.pairs vs ++ shown_of net.lamp vs
