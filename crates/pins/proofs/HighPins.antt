-- Only the first pin of an AND can be hidden, held at 1.
use Prim.Native.Nat.{ℕ, ◌+◌, ◌-◌, ◌≤◌, ◌<◌}
use native.Mathlib.Decide.{ℕ_discrete}
use native.Mathlib.Omega.{arith}
use mathlib.Core.Path.{◌≡◌, sym, ap, ◌∙◌}
use mathlib.Core.Bool.{Bool, true, false, cond, true≢false}
use mathlib.Core.List.{List}
use mathlib.Core.Logic.{⊎_elim, by_cases}
use borrow.Author.Tests.{ne_eqb}
use lib.ListN.{length, get_or}
use Rattle.diagram.specs.declared.Diagram.{Diagram}
use Rattle.diagram.proofs.Unique.{Reduced}
use Rattle.table.specs.Promises.{Accepted}
use Rattle.table.specs.Table.{diagram_in}
use Rattle.table.proofs.Accepted.{accepted}
use Rattle.netlist.specs.declared.Hold.{Hold}
use Rattle.netlist.specs.Netlist.{site_of, level_of, gate_line, line_count}
use Rattle.simulation.specs.Run.{gate_of}
use Rattle.rules.specs.Blocks.{cut}
use Rattle.rules.specs.Board.{whole_block, board_of, table_board}
use Rattle.rules.proofs.Makes.{any_gate}
use Rattle.rules.proofs.Models.{Gates}
use Rattle.faults.specs.Betrayal.{is_seen}
use Rattle.faults.proofs.HeldLines.{level-bit}
use Rattle.faults.proofs.Betrayed.{seen_at}
use Rattle.faults.proofs.NoUnseen.{BetrayedBy, high-betrayed, whole, no-unseen-gate}
use Rattle.pins.specs.Promises.{IsPin, HiddenPins}
use Rattle.pins.proofs.Runs.{ν, run, made}
use Rattle.pins.proofs.LowPins.{low-pins-seen}
use Rattle.pins.proofs.Raising.{gate-high}

-- The line of each gate at y shows 1 wherever the gate's first source does.
abbrev Gives : Diagram → ℕ → (ℕ → ℕ) → Type 0
Gives d y ν = Gates (λ x g. x ≡ y → ν g.left ≡ 1 → ν y ≡ 1) (board_of d)

-- An AND at line y that does shows at a pair.
and-betrayed : (d : Diagram) → 1 ≤ d.contacts → Reduced d → (y : ℕ) → gate_line d.contacts ≤ y → y < line_count (board_of d) →
    Gates (λ x g. x ≡ y → g.kind ≡ 0) (board_of d) → BetrayedBy d (Gives d y) 1
unfolding board_of whole_block
and-betrayed d some reduced y from below ands =
    high-betrayed d some reduced (Gives d y)
    (gate-high d reduced (Gives d y) y (cut d.contacts) 0 0 (gate_line d.contacts) (whole d some reduced)
    (record { has = λ g l e. (ands.has g l e, λ ν o. o.has g l e) }) (record { from = from; below = below }))

-- What a gate with a pin at 1 makes: 1 if it is an OR, what its other pin has if it is an AND.
or-high : (kind v : ℕ) → (kind ≡ 0 → ⊥) → v ≤ 1 → gate_of kind 1 v ≡ 1
or-high kind v or bit = rw (ne_eqb kind 0 or) (omega arith)

and_high : (kind v : ℕ) → kind ≡ 0 → v ≡ 1 → gate_of kind 1 v ≡ 1
and_high kind v and e = rw (and, e)

module _ (table : List ℕ) (yes! : Accepted table) (h : Hold) (pin : IsPin (table_board table) h) (high : level_of h ≡ 1) where
  abbrev d : Diagram
  d = diagram_in table

  abbrev g : ℕ
  g = h.line - gate_line d.contacts

  abbrev kind : ℕ
  kind = (get_or (board_of d).gates g any_gate).kind

  some : 1 ≤ d.contacts
  some = (accepted table yes!.1).sized.contacts.0

  from : gate_line d.contacts ≤ h.line
  unfolding board_of
  from = pin.0

  below : h.line < line_count (board_of d)
  below = pin.1

  inside : g < length (board_of d).gates
  unfolding board_of
  inside = omega (arith, from, below)

  place : gate_line (board_of d).contacts + g ≡ h.line
  unfolding board_of
  place = omega (arith, from)

  -- A pin of an OR: the line is as good as held.
  or-seen : (kind ≡ 0 → ⊥) → (first : Bool) → site_of h ≡ cond first 1 2 → is_seen (board_of d) h ≡ true
  or-seen or first site =
      let (x, j, hj, both) = no-unseen-gate d some (accepted table yes!.1).reduced h.line 1 from below (omega arith) in
      let r = run d some h x 1 high in
      let line = made d some h x 1 high first site g inside place ∙ or-high kind _ or (r.bits _) in
      let (on, off) = both _ r (rw place at line) in
      seen_at d h x j hj (on ∙ sym off)

  -- The second pin of an AND.
  and-seen : kind ≡ 0 → site_of h ≡ 2 → is_seen (board_of d) h ≡ true
  and-seen and second =
      let ands : Gates (λ x g. x ≡ h.line → g.kind ≡ 0) (board_of d) =
      record { has = λ i l e. let same : i ≡ g = omega (arith, place) in rw same and } in
      let (x, j, hj, both) = and-betrayed d some (accepted table yes!.1).reduced h.line from below ands in
      let gives : Gives d h.line (ν d some h x) =
      record {
        has = λ i l e up.
            ap (ν d some h x) (sym e) ∙ made d some h x 1 high false second i l e ∙ and_high _ _ (ands.has i l e) up;
      } in
      let (on, off) = both _ (run d some h x 1 high) gives in
      seen_at d h x j hj (on ∙ sym off)

  -- Held at 1, only the first pin of an AND is left.
  high-hidden : is_seen (board_of d) h ≡ false → (site_of h ≡ 1) × (kind ≡ 0)
  high-hidden hidden =
      by_cases (ℕ_discrete kind 0)
      (λ and. ⊎_elim (λ first. (first, and)) (λ second. absurd (true≢false (sym (and-seen and second) ∙ hidden))) pin.2)
      (λ or. absurd (true≢false (sym (⊎_elim (or-seen or true) (or-seen or false) pin.2) ∙ hidden)))

pub hidden-pins : HiddenPins
unfolding board_of
hidden-pins table yes! h pin hidden =
    by_cases (ℕ_discrete (level_of h) 0) (λ low. absurd (true≢false (sym (low-pins-seen table yes! h pin low) ∙ hidden)))
    (λ not_low.
    let high : level_of h ≡ 1 = omega (arith, level-bit h) in
    let (first, and) = high-hidden table yes! h pin high hidden in
    (first, and, high))
