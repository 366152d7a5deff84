-- When a step is accepted.
use Prim.Native.Nat.{ℕ, ◌≤◌}
use mathlib.Core.Path.{◌≡◌, ap, ap₂, ◌∙◌}
use mathlib.Core.Bool.{Bool, ◌&&◌, cond}
use mathlib.Core.List.{List}
use borrow.Author.Tests.{le-leb}
use Rattle.fields.proofs.Refusals.{first-yes, first_next, first-only}
use Rattle.files.specs.declared.room.Room.TheVariants.{Enough, Short}
use Rattle.files.specs.Room.{room_of, room_number}
use Rattle.netlist.specs.Netlist.{line_count}
use Rattle.drive.specs.declared.Place.TheVariants.{Within, Outside}
use Rattle.drive.specs.Questions.{rails_number, holds_number, place_of, place_number}
use Rattle.wiring.specs.Questions.{netlist_in, netlist_refusal}
use Rattle.simulation.specs.Service.{step_refusal}
use Rattle.simulation.proofs.Whole.{Taken}

module _ (file rails holds : List ℕ) (place lines pairs : ℕ) where
  pub sound : step_refusal file rails holds place lines pairs ≡ 0 → netlist_refusal file ≡ 0
  unfolding step_refusal
  sound e = (first-yes _ _ e).0

  pub accepts : netlist_refusal file ≡ 0 → Taken (netlist_in file) rails holds place lines pairs →
      step_refusal file rails holds place lines pairs ≡ 0
  unfolding step_refusal
  accepts s t =
      let net = netlist_in file in
      let within : place_number (place_of (line_count net) place) ≡ 0 =
      ap (λ (b : Bool). place_number (cond b Within Outside)) (ap₂ ◌&&◌ (le-leb _ _ t.from) (le-leb _ _ t.upto)) in
      first_next _ _ s ∙ first_next _ _ (ap rails_number t.driven) ∙ first_next _ _ (ap holds_number t.ordered) ∙ first_next _ _ within
      ∙ first_next _ _ (room (line_count net) lines t.room) ∙ first-only _ ∙ room _ pairs t.paired
    where
      room : (wanted lent : ℕ) → wanted ≤ lent → room_number (room_of wanted lent) ≡ 0
      room wanted lent l = ap (λ (b : Bool). room_number (cond b Enough Short)) (le-leb wanted lent l)
