-- What reading a netlist file gives.
use Rattle.std.specs.Prelude.{ℕ, ◌≡◌, true, Option, Some, None, List}
use Rattle.fields.specs.Fields.{fields_of, value_in}
use Rattle.files.specs.Header.{contacts_of}
use Rattle.netlist.specs.Netlist.{Netlist, gates_of, pairs_of, net_with}
use Rattle.wiring.specs.declared.parts.Parts.{Parts}
use Rattle.wiring.specs.Questions.{is_sound}

-- The contacts of its parts, if it has them.
abbrev pub contacts_by : Option Parts → Option ℕ
contacts_by None = None
contacts_by (Some p) = Some p.contacts

-- The contacts, and the bytes of the gates, the outputs and the lamp.
pub record PartsOf (file : List ℕ) (p : Parts) : Type 0 where
  pub contacts : p.contacts ≡ contacts_of (fields_of file).items
  pub gates : p.gates.now ≡ value_in (fields_of file).items 1
  pub outputs : p.outputs.now ≡ value_in (fields_of file).items 2
  pub lamp : p.lamp.now ≡ value_in (fields_of file).items 3

-- The netlist of such parts, and that question 12 says yes of them.
abbrev pub netlist_by : Parts → Netlist
netlist_by p = net_with p.contacts (gates_of p.gates.now) (pairs_of p.outputs.now) (pairs_of p.lamp.now)

abbrev pub IsSound : Parts → Type 0
IsSound p = is_sound p.contacts p.gates.now p.outputs.now p.lamp.now ≡ true
