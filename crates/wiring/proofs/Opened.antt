-- What reading a netlist file gives, question by question, and what is known of the parts of one that is not refused.
use Prim.Native.Nat.{ℕ, ◌+◌, ◌/◌, ◌≤◌}
use mathlib.Core.Path.{◌≡◌, refl, sym, ap, ◌∙◌}
use mathlib.Core.Bool.{Bool, true, ◌&&◌}
use mathlib.Core.List.{List}
use lib.ListN.{length}
use Rattle.fields.specs.Fields.{fields_of, value_in}
use Rattle.fields.specs.Refusals.{first_no}
use Rattle.fields.proofs.Bounded.{and_left, and_right}
use Rattle.fields.proofs.Refusals.{first-only}
use Rattle.files.specs.Header.{contacts_of}
use Rattle.netlist.specs.Netlist.{gate_line, gates_of, pairs_of, net_with}
use Rattle.netlist.proofs.Sound.{Bounds}
use Rattle.std.specs.Prelude.{Some, None}
use Rattle.wiring.specs.declared.sound.Wiring.{Wiring}
use Rattle.wiring.specs.declared.sound.Wiring.TheVariants.{Sound, Unsound}
use Rattle.wiring.specs.declared.parts.Parts.{Parts}
use Rattle.wiring.specs.Questions.{form_of, are_gates, are_pairs, is_sound, wiring_of, wiring_number, netlist_of, netlist_refusal}
use Rattle.wiring.specs.Inner.Read.{PartsOf}
use Rattle.wiring.proofs.Accepted.{accepted}

-- The parts of a netlist file that is not refused.
pub record Opened (file : List ℕ) (n : ℕ) (gates outputs lamp : List ℕ) : Type 0 where
  pub accepted : netlist_refusal file ≡ 0
  pub contacts : n ≡ contacts_of (fields_of file).items
  pub gates-are : gates ≡ value_in (fields_of file).items 1
  pub outputs-are : outputs ≡ value_in (fields_of file).items 2
  pub lamp-is : lamp ≡ value_in (fields_of file).items 3

module _ (file : List ℕ) where
  pub unformed : form_of (fields_of file) ≡ None → 11 ≡ netlist_refusal file
  unfolding netlist_refusal first_no
  unformed f = rw f refl

  -- Once question 11 has its yes.
  module _ {p : Parts} (f : form_of (fields_of file) ≡ Some p.contacts) (o : PartsOf file p) where
    abbrev wiring : Wiring
    wiring = wiring_of p.contacts p.gates.now p.outputs.now p.lamp.now

    asked : netlist_refusal file ≡ wiring_number wiring
    unfolding netlist_refusal first_no
    asked = rw (f, o.contacts, o.gates, o.outputs, o.lamp) (first-only _)

    pub unsound : wiring ≡ Unsound → 12 ≡ netlist_refusal file
    unsound w = sym (asked ∙ ap wiring_number w)

    pub sound : wiring ≡ Sound → 0 ≡ netlist_refusal file
    sound w = sym (asked ∙ ap wiring_number w)

  pub opened : {p : Parts} → PartsOf file p → netlist_refusal file ≡ 0 → Opened file p.contacts p.gates.now p.outputs.now p.lamp.now
  opened o z = record { accepted = z; contacts = o.contacts; gates-are = o.gates; outputs-are = o.outputs; lamp-is = o.lamp }

-- What a yes to question 12 says of gates, outputs and lamp.
module _ (n : ℕ) (gates outputs lamp : List ℕ) (s : is_sound n gates outputs lamp ≡ true) where
  abbrev lines : ℕ
  lines = gate_line n + length gates / 5

  abbrev first_two : Bool
  first_two = are_gates (gate_line n) gates && are_pairs lines outputs

  pub gates-sound : are_gates (gate_line n) gates ≡ true
  unfolding is_sound
  gates-sound = and_left _ (are_pairs lines outputs) (and_left first_two (are_pairs lines lamp) s)

  pub outputs-sound : are_pairs (gate_line n + length gates / 5) outputs ≡ true
  unfolding is_sound
  outputs-sound = and_right (are_gates (gate_line n) gates) _ (and_left first_two (are_pairs lines lamp) s)

  pub lamp-sound : are_pairs (gate_line n + length gates / 5) lamp ≡ true
  unfolding is_sound
  lamp-sound = and_right first_two _ s

module _ {file : List ℕ} {n : ℕ} {gates outputs lamp : List ℕ} (o : Opened file n gates outputs lamp) where
  pub net-is : netlist_of (fields_of file).items ≡ net_with n (gates_of gates) (pairs_of outputs) (pairs_of lamp)
  unfolding netlist_of
  net-is = rw (o.contacts, o.gates-are, o.outputs-are, o.lamp-is)

  pub parts-sound : is_sound n gates outputs lamp ≡ true
  unfolding netlist_of
  parts-sound = rw (o.contacts, o.gates-are, o.outputs-are, o.lamp-is) (accepted file o.accepted).sound

  pub few-contacts : n ≤ 12
  unfolding netlist_of
  few-contacts = rw o.contacts (accepted file o.accepted).form.most

  pub gates-wired : are_gates (gate_line n) gates ≡ true
  gates-wired = gates-sound _ _ _ _ parts-sound

  pub outputs-wired : are_pairs (gate_line n + length gates / 5) outputs ≡ true
  outputs-wired = outputs-sound _ _ _ _ parts-sound

  pub lamp-wired : are_pairs (gate_line n + length gates / 5) lamp ≡ true
  lamp-wired = lamp-sound _ _ _ _ parts-sound

  pub bounded : Bounds (net_with n (gates_of gates) (pairs_of outputs) (pairs_of lamp))
  bounded = rw (← net-is) (accepted file o.accepted).bounds
