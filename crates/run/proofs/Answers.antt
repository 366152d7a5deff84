-- After the questions lines can be worked out, and pairs be read off them.
use native.Mathlib.Omega.{arith}
use Prim.Native.Nat.{ℕ, ◌/◌, ◌≤◌}
use mathlib.Core.Path.{◌≡◌}
use mathlib.Core.Bool.{true}
use mathlib.Core.List.{List}
use lib.ListN.{length}
use Rattle.fields.proofs.Bounded.{all_of}
use Rattle.netlist.specs.Netlist.{pair_at}
use Rattle.netlist.proofs.Lists.{length-gates}
use Rattle.wiring.specs.Questions.{is_pair, are_pairs}
use Rattle.wiring.specs.declared.parts.Parts.{Parts}
use Rattle.wiring.specs.Inner.Read.{netlist_by, IsSound}
use Rattle.wiring.proofs.Opened.{gates-sound}
use Rattle.wiring.proofs.Tests.{pairs-at, in_pair}
use Rattle.simulation.proofs.Answers.{driven, driven-bits, ordered}
use Rattle.simulation.proofs.Whole.{Taken}
use Rattle.evaluation.specs.Inner.Walk.{Ready}

pub ready : (p : Parts) (rails holds : List ℕ) (place room pairs : ℕ) → IsSound p → Taken (netlist_by p) rails holds place room pairs →
    Ready p.gates.now rails holds room
ready p rails holds place room pairs s t =
    let l = driven p.contacts rails t.driven in
    let few = p.few_contacts in
    let many = length-gates p.gates.now in
    record {
      few = omega arith;
      many = p.few_gates;
      fits = omega (arith, t.room);
      bits = driven-bits p.contacts rails t.driven;
      wired = rw l (gates-sound _ _ _ _ s);
      sorted = rw l (ordered _ _ holds (rw many at t.ordered));
    }

-- Lines of a netlist are lines of a longer buffer.
pub pairs-within : (lines room : ℕ) (pairs : List ℕ) → lines ≤ room → are_pairs lines pairs ≡ true → are_pairs room pairs ≡ true
pairs-within lines room pairs h e =
    all_of (λ j. is_pair room (pair_at pairs j)) (length pairs / 4)
    (λ j l. let p = pairs-at lines pairs e j l in in_pair room (pair_at pairs j) (record { on = omega arith; off = omega arith }))
