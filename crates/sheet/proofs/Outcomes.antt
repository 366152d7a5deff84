-- What the service returns and leaves, question by question.
use native.Mathlib.Omega.{arith}
use Prim.Native.Nat.{ℕ, ◌+◌, ◌/◌, ◌≤◌, ◌<◌}
use mathlib.Core.Path.{◌≡◌, sym, ◌∙◌}
use mathlib.Core.List.{List}
use lib.ListN.{length}
use Rattle.std.specs.Prelude.{Ok, Err}
use Rattle.files.specs.declared.room.Room.TheVariants.{Enough, Short}
use Rattle.files.specs.declared.refusal.Refusal.{Refusal}
use Rattle.files.specs.declared.refusal.Refusal.TheVariants.{Room}
use Rattle.files.specs.Refusals.{number_of}
use Rattle.files.specs.Room.{over, room_of, written}
use Rattle.files.proofs.Writing.{refused-before, too_short, written-whole}
use Rattle.netlist.proofs.Lists.{length-gates, length_pairs}
use Rattle.wiring.specs.declared.parts.Parts.{Parts}
use Rattle.wiring.specs.Questions.{netlist_in, netlist_refusal}
use Rattle.wiring.specs.Inner.Read.{PartsOf, netlist_by}
use Rattle.wiring.proofs.Opened.{opened, net-is, bounded}
use Rattle.sheet.specs.Sheet.{sheet_of}
use Rattle.sheet.specs.Service.{sheeting_of}
use Rattle.sheet.specs.Inner.Places.{end_of, rows_by}
use Rattle.sheet.proofs.Pages.{sheet-end}

-- What is known once questions 11 and 12 have their yes: the counts of rows and lines.
module _ {file : List ℕ} {p : Parts} (z : netlist_refusal file ≡ 0) (o : PartsOf file p) where
  pub counts : (0 < rows_by p) × (rows_by p ≤ 10611)
  counts =
      let b = bounded (opened file o z) in
      (omega (arith, b.some, length_pairs p.outputs.now), omega (arith, p.few_gates, p.few_outputs, p.one_lamp))

  length-is : end_of (rows_by p) ≡ length (sheet_of (netlist_in file))
  length-is =
      let rows : rows_by p ≡ length p.gates.now / 5 + length p.outputs.now / 4 + length p.lamp.now / 4 = omega arith in
      rw (net-is (opened file o z), rows, ← length-gates p.gates.now, ← length_pairs p.outputs.now, ← length_pairs p.lamp.now)
      (sym (sheet-end (netlist_by p)))

  module _ (text : List ℕ) where
    pub short : room_of (end_of (rows_by p)) (length text) ≡ Short → written (Err Room) text ≡ sheeting_of file text
    unfolding sheeting_of
    short e = rw z (too_short (sheet_of (netlist_in file)) text (rw length-is at e))

    pub done : {m : ℕ} {after : List ℕ} → room_of (end_of (rows_by p)) (length text) ≡ Enough → m ≡ end_of (rows_by p) →
        after ≡ over (sheet_of (netlist_by p)) text → written (Ok m) after ≡ sheeting_of file text
    unfolding sheeting_of
    done e l a =
        rw z
        (written-whole (sheet_of (netlist_in file)) text (rw length-is at e) (l ∙ length-is) (rw (net-is (opened file o z)) a))

pub unread : (file text : List ℕ) (r : Refusal) → number_of r ≡ netlist_refusal file → written (Err r) text ≡ sheeting_of file text
unfolding sheeting_of
unread file text r e = refused-before (sheet_of (netlist_in file)) text r e
