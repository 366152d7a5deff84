-- Runs of a board with one pin held: what the pin's gate makes.
use Prim.Native.Nat.{ℕ, ◌+◌, ◌≤◌, ◌<◌, min, max}
use native.Mathlib.Omega.{arith}
use mathlib.Core.Path.{◌≡◌, sym, ap₂, ◌∙◌}
use mathlib.Core.Bool.{Bool, true, false, cond}
use mathlib.Core.List.{[], ◌∷◌}
use borrow.Author.Tests.{eq-eqb, ne_eqb}
use lib.Dec.{eqb}
use lib.ListN.{length, get_or}
use Rattle.diagram.specs.declared.Diagram.{Diagram}
use Rattle.diagram.specs.Diagram.{Input}
use Rattle.netlist.specs.declared.Gate.{Gate}
use Rattle.netlist.specs.declared.Hold.{Hold}
use Rattle.netlist.specs.Netlist.{site_of, level_of, gate_line}
use Rattle.simulation.specs.Run.{gate_of, held}
use Rattle.simulation.proofs.Obeys.{obeys}
use Rattle.rules.specs.Board.{board_of}
use Rattle.rules.proofs.Codes.{code-length}
use Rattle.rules.proofs.Held.{shown, one-way-run}
use Rattle.rules.proofs.Makes.{any_gate}
use Rattle.rules.proofs.Models.{code_of, OneSided}
use Rattle.rules.proofs.Wired.{board-wired}
use Rattle.faults.proofs.HeldLines.{level-bit}
use Rattle.faults.proofs.TreeHits.{other_pin}

either_order : (t : Bool) (a b : ℕ) → cond t (min a b) (max a b) ≡ cond t (min b a) (max b a)
either_order true a b = omega arith
either_order false a b = omega arith

-- A site of the held line has the held value if it is the one that is held, else its own.
module _ (h : Hold) (y s v : ℕ) (place : y ≡ h.line) where
  site-held : site_of h ≡ s → held (h ∷ []) y s v ≡ level_of h
  unfolding held
  site-held e = rw (eq-eqb h.line y (sym place), eq-eqb (site_of h) s e)

  site-free : (site_of h ≡ s → ⊥) → held (h ∷ []) y s v ≡ v
  unfolding held
  site-free ne = rw (eq-eqb h.line y (sym place), ne_eqb (site_of h) s ne)

-- A gate with a pin held at b makes what it would of b and of its other source.
pinned : (h : Hold) (b : ℕ) → level_of h ≡ b → (first : Bool) → site_of h ≡ cond first 1 2 → (y : ℕ) → y ≡ h.line → (ν : ℕ → ℕ) (g : Gate) →
    held (h ∷ []) y 0 (gate_of g.kind (held (h ∷ []) y 1 (ν g.left)) (held (h ∷ []) y 2 (ν g.right)))
    ≡ gate_of g.kind b (ν (other_pin first g))
pinned h b level true site y place ν g =
    site-free h y 0 _ place (λ e. omega arith)
    ∙ ap₂ (gate_of g.kind) (site-held h y 1 _ place site ∙ level) (site-free h y 2 _ place (λ e. omega arith))
pinned h b level false site y place ν g =
    site-free h y 0 _ place (λ e. omega arith)
    ∙ ap₂ (gate_of g.kind) (site-free h y 1 _ place (λ e. omega arith)) (site-held h y 2 _ place site ∙ level)
    ∙ either_order (eqb g.kind 0) (ν g.left) b

module _ (d : Diagram) (some : 1 ≤ d.contacts) (h : Hold) (x : Input) where
  -- What the lines show at input x with the hold.
  abbrev pub ν : ℕ → ℕ
  ν = shown (board_of d) (code_of (board_of d) x) (h ∷ [])

  module _ (b : ℕ) (level : level_of h ≡ b) where
    pub run : OneSided (board_of d) x b ν
    run = one-way-run (board_of d) (board-wired d some) x b (omega (arith, level-bit h)) (h ∷ []) (level, tt)

    pub made : (first : Bool) → site_of h ≡ cond first 1 2 → (g : ℕ) → g < length (board_of d).gates →
        gate_line (board_of d).contacts + g ≡ h.line →
        let at = get_or (board_of d).gates g any_gate in
        ν (gate_line (board_of d).contacts + g) ≡ gate_of at.kind b (ν (other_pin first at))
    made first site g l place =
        (obeys (board_of d) (code_of (board_of d) x) (h ∷ []) (code-length x (board_of d).contacts) (board-wired d some)).gate g any_gate l
        ∙ pinned h b level first site _ place ν (get_or (board_of d).gates g any_gate)
