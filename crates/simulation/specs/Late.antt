-- Rails that have not arrived. A value is low (0), high (1) or not yet (2), in the field an unknown value.
use Rattle.std.specs.Prelude.{ℕ, ◌-◌, Bool, true, false, ◌&&◌, cond, List, [], ◌∷◌, leb, eqb, get_or, take, drop}
use Rattle.fields.specs.Bounded.{listed}
use Rattle.netlist.specs.declared.Hold.{Hold}
use Rattle.netlist.specs.Netlist.{Netlist, line_count}
use Rattle.simulation.specs.Run.{holding, drivers_of, work_out, values_of}

-- Whether a byte is a value: low (0), high (1) or not yet (2).
abbrev pub is_value : List ℕ → ℕ → Bool
is_value bytes i = leb (get_or bytes i 0) 2

-- Whether a test passes for every way in which values could arrive: each that is not yet, by itself, as 0 or as 1.
unfoldable pub every_arrival : List ℕ → (List ℕ → Bool) → Bool
every_arrival [] p = p []
every_arrival (v ∷ vs) p =
    elim (eqb v 2) [
      | true ↦ every_arrival vs (λ ws. p (0 ∷ ws)) && every_arrival vs (λ ws. p (1 ∷ ws))
      | false ↦ every_arrival vs (λ ws. p (v ∷ ws))
    ]

-- The values of so many lines, given what passes for every way in which these could come: a line is low or high if it is so for every
-- way, else it is not yet.
unfoldable pub settled_lines : ((List ℕ → Bool) → Bool) → ℕ → List ℕ
settled_lines every_way count =
    let always : ℕ → ℕ → Bool = λ y value. every_way (λ values. eqb (get_or values y 0) value) in
    listed (λ y. cond (always y 0) 0 (cond (always y 1) 1 2)) count 0

-- Every line's value, from line 0 up, at rails of which some may be late.
unfoldable pub late_values_of : Netlist → List ℕ → List Hold → List ℕ
late_values_of net rails holds =
    settled_lines (λ passes. every_arrival rails (λ arrived. passes (values_of net arrived holds))) (line_count net)

-- Every line's value up to where a step ends, once rails and earlier lines have arrived: the earlier lines, then as many from the
-- place on as the step is told, or all that are left if these are fewer.
abbrev pub arrived_values : Netlist → List ℕ → List Hold → ℕ → ℕ → List ℕ → List ℕ
arrived_values net rails holds place count before =
    work_out (holding holds) (take count (drop (place - 2) (drivers_of rails net.gates))) before
