-- Stuck lines and pins: what a board shows with one of them held, and the smallest code input that betrays it.
use Rattle.std.specs.Prelude.{ℕ, ◌^◌, Bool, List, [], ◌∷◌, eqb, length, get_or}
use Rattle.fields.specs.Bounded.{any, least}
use Rattle.diagram.specs.Diagram.{input_of}
use Rattle.netlist.specs.declared.Hold.{Hold}
use Rattle.netlist.specs.declared.Pair.{Pair}
use Rattle.netlist.specs.Netlist.{Netlist}
use Rattle.simulation.specs.Run.{values_of}
use Rattle.rules.specs.Code.{code_rails}

-- Every line's value at input number a with one line or pin held.
unfoldable pub stuck_at : Netlist → Hold → ℕ → List ℕ
stuck_at net h a = values_of net (code_rails net.contacts (input_of a)) (h ∷ [])

-- Whether output j's pair shows no code: 00 or 11.
unfoldable pub no_code : List Pair → List ℕ → ℕ → Bool
no_code pairs vs j =
    let p = get_or pairs j (record { on = 0; off = 0 }) in
    eqb (get_or vs p.on 0) (get_or vs p.off 0)

-- Whether some output's does, and the lowest that does.
abbrev pub some_no_code : List Pair → List ℕ → Bool
some_no_code pairs vs = any (length pairs) (no_code pairs vs)

abbrev pub lowest_no_code : List Pair → List ℕ → ℕ
lowest_no_code pairs vs = least (length pairs) (no_code pairs vs)

-- A line or pin held at a value is betrayed at a code input exactly if some pair there is 00 or 11.
unfoldable pub betrays : Netlist → Hold → ℕ → Bool
betrays net h a = some_no_code net.pairs (stuck_at net h a)

-- Whether some code input betrays a held line or pin, and the smallest that does.
unfoldable pub is_seen : Netlist → Hold → Bool
is_seen net h = any (2 ^ net.contacts) (betrays net h)

abbrev pub smallest_input : Netlist → Hold → ℕ
smallest_input net h = least (2 ^ net.contacts) (betrays net h)
