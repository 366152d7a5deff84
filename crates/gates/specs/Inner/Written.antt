-- How code that writes gates one after another meets the definitions that make them.
use Rattle.std.specs.Prelude.{ℕ, ◌+◌, ◌*◌, ◌≤◌, ◌≡◌, length}
use mathlib.Core.List.{flat_map}
use Rattle.std.proofs.lemmas.List.Edits.{sets}
use Rattle.netlist.specs.Netlist.{gate_bytes}
use Rattle.rules.specs.Make.{Make}
use Rattle.gates.specs.declared.gate.Gates.{Gates}

-- The line of the next gate.
abbrev pub free_line : Gates → ℕ
free_line g = g.first + g.made

-- From one state of a writer to another: the buffer is the same, the gates of m follow in it those made before, nothing else in it
-- changes, the gates made are counted on, and the result is m's.
pub record Written {A : Type 0} (m : Make A) (before after : Gates) (a : A) : Type 0 where
  pub same_buffer : after.out.ghost_name ≡ before.out.ghost_name
  pub same_first : after.first ≡ before.first
  pub bytes : after.out.now ≡ sets before.out.now (5 * before.made) (flat_map gate_bytes (m (free_line before)).0)
  pub count : after.made ≡ before.made + length (m (free_line before)).0
  pub result : a ≡ (m (free_line before)).1

-- The same, without a word of the result.
abbrev pub Grown : {A : Type 0} → Make A → Gates → Gates → Type 0
Grown m before after = Written m before after (m (free_line before)).1

-- Room for more gates: their lines are numbers of two bytes, and the buffer holds their bytes.
pub record GateRoom (g : Gates) (more : ℕ) : Type 0 where
  pub lines : g.first + (g.made + more) ≤ 65536
  pub bytes : 5 * (g.made + more) ≤ length g.out.now

-- Room for the gates of m.
abbrev pub RoomFor : {A : Type 0} → Make A → Gates → Type 0
RoomFor m g = GateRoom g (length (m (free_line g)).0)
