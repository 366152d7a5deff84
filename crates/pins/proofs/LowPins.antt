-- No pin held at 0 is hidden.
use Prim.Native.Nat.{ℕ, zero, suc, ◌≤◌, max}
use native.Mathlib.Omega.{arith}
use mathlib.Core.Path.{◌≡◌, sym, ◌∙◌}
use mathlib.Core.Bool.{Bool, true, false, cond}
use mathlib.Core.Logic.{⊎_elim}
use borrow.Author.Tests.{ne_eqb}
use Rattle.diagram.specs.declared.Diagram.{Diagram}
use Rattle.diagram.specs.Diagram.{Input}
use Rattle.table.specs.Table.{diagram_in}
use Rattle.table.proofs.Accepted.{accepted}
use Rattle.netlist.specs.declared.Hold.{Hold}
use Rattle.netlist.specs.Netlist.{site_of, level_of}
use Rattle.simulation.specs.Run.{gate_of}
use Rattle.rules.specs.Board.{board_of}
use Rattle.rules.proofs.Models.{Gates}
use Rattle.faults.specs.Betrayal.{is_seen}
use Rattle.faults.proofs.Betrayed.{seen_at}
use Rattle.faults.proofs.NoUnseen.{no-unseen-cut}
use Rattle.faults.proofs.TreeHits.{other_pin}
use Rattle.pins.specs.Promises.{LowPinsSeen}
use Rattle.pins.proofs.Runs.{ν, run, made}

-- A gate with a pin at 0 makes 1 only if it is an OR whose other pin has 1.
low-made : (kind v : ℕ) → gate_of kind 0 v ≡ 1 → (kind ≡ 0 → ⊥) × (v ≡ 1)
low-made zero v e = absurd (omega arith)
low-made (suc k) v e =
    let f : max 0 v ≡ 1 = simp (ne_eqb (suc k) 0 (λ z. omega arith)) at e in (λ z. omega arith, omega arith)

-- Line y shows 1 only by its gate's other pin, the first or the second being held at 0, and only if the gate is an OR.
abbrev Lacks : Diagram → ℕ → Bool → (ℕ → ℕ) → Type 0
Lacks d y first ν = Gates (λ x g. x ≡ y → ν y ≡ 1 → (g.kind ≡ 0 → ⊥) × (ν (other_pin first g) ≡ 1)) (board_of d)

lacks : (d : Diagram) (some : 1 ≤ d.contacts) (h : Hold) (x : Input) → level_of h ≡ 0 → (first : Bool) → site_of h ≡ cond first 1 2 →
    Lacks d h.line first (ν d some h x)
lacks d some h x low first site =
    record { has = λ g l place up. low-made _ _ (sym (made d some h x 0 low first site g l place) ∙ rw place up) }

pub low-pins-seen : LowPinsSeen
unfolding board_of
low-pins-seen table (bytes, all) h (from, below, site) low = ⊎_elim (seen true) (seen false) site
  where
    d : Diagram
    d = diagram_in table

    some : 1 ≤ d.contacts
    some = (accepted table all).sized.contacts.0

    seen : (first : Bool) → site_of h ≡ cond first 1 2 → is_seen (board_of d) h ≡ true
    seen first site =
        let (x, j, hj, dark) = no-unseen-cut d some (accepted table all).reduced (Lacks d h.line first) h.line from below
        (record { has = λ g l e. (first, λ ν o s. o.has g l e s) }) in
        let (on, off) = dark _ (run d some h x 0 low) (lacks d some h x low first site) in
        seen_at d h x j hj (on ∙ sym off)
