-- What a search answers.
use Rattle.std.specs.Prelude.{ℕ, cond, Option, Some, None}
use Rattle.netlist.specs.declared.Hold.{Hold}
use Rattle.netlist.specs.Netlist.{Netlist}
use Rattle.faults.specs.Betrayal.{is_seen, smallest_input}

-- The smallest code input that betrays a held line or pin, if some code input does.
abbrev pub found_in : Netlist → Hold → Option ℕ
found_in net h = cond (is_seen net h) (Some (smallest_input net h)) None
