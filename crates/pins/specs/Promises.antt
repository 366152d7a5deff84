-- Which stuck pins stay hidden, that is, show at no code input.
use Rattle.std.specs.Prelude.{ℕ, ◌-◌, ◌≤◌, ◌<◌, ◌≡◌, true, false, List, ◌⊎◌, get_or}
use Rattle.table.specs.Promises.{Accepted}
use Rattle.netlist.specs.declared.Gate.{Gate}
use Rattle.netlist.specs.declared.Hold.{Hold}
use Rattle.netlist.specs.Netlist.{Netlist, site_of, level_of, gate_line, line_count}
use Rattle.rules.specs.Board.{table_board}
use Rattle.faults.specs.Betrayal.{is_seen}

-- A hold of a netlist's pin: it names the line of a gate, and the gate's first or second pin.
abbrev pub IsPin : Netlist → Hold → Type 0
IsPin net h = (gate_line net.contacts ≤ h.line) × (h.line < line_count net) × ((site_of h ≡ 1) ⊎ (site_of h ≡ 2))

-- The gate of a line.
abbrev pub gate_on : Netlist → ℕ → Gate
gate_on net line = get_or net.gates (line - gate_line net.contacts) (record { kind = 0; left = 0; right = 0 })

-- A pin held at 0 is never hidden.
abbrev pub LowPinsSeen : Type 0
LowPinsSeen =
    (table : List ℕ) → Accepted table → (h : Hold) → IsPin (table_board table) h → level_of h ≡ 0 → is_seen (table_board table) h ≡ true

-- Only the first pin of an AND, held at 1, can be hidden.
abbrev pub HiddenPins : Type 0
HiddenPins =
    (table : List ℕ) → Accepted table → (h : Hold) → IsPin (table_board table) h → is_seen (table_board table) h ≡ false →
    (site_of h ≡ 1) × ((gate_on (table_board table) h.line).kind ≡ 0) × (level_of h ≡ 1)
