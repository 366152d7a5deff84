-- The rails of a board that a gate or output reads are those of levels that have a node with different edges.
use Prim.Native.Nat.{ℕ, ◌≤◌, ◌<◌}
use native.Mathlib.Omega.{arith}
use mathlib.Core.Path.{◌≡◌, refl}
use mathlib.Core.Bool.{Bool, true, false}
use mathlib.Core.Logic.{◌⊎◌, inl, inr, ⊎_elim}
use Rattle.diagram.specs.declared.Diagram.{Diagram}
use Rattle.diagram.specs.Diagram.{root}
use Rattle.diagram.proofs.Paths.{Branches}
use Rattle.netlist.specs.Netlist.{gate_line, line_count, is_read}
use Rattle.netlist.proofs.Readers.{read_has}
use Rattle.rules.specs.declared.Entry.{Entry}
use Rattle.rules.specs.Board.{line_of, whole_block, board_of}
use Rattle.rules.specs.Formulas.{depth_most}
use Rattle.rules.proofs.Makes.{any_gate, Each}
use Rattle.rules.proofs.Entries.{OfLine, never, always, line}
use Rattle.rules.proofs.Lays.{Lies, LaidGate}
use Rattle.rules.proofs.Lines.{MatrixLies, table_at}
use Rattle.rules.proofs.Pairs.{pairs-length, pairs-at}
use Rattle.rules.proofs.Wired.{board-lays}
use Rattle.faults.proofs.RailsShown.{rail_of}

module _ (d : Diagram) (some : 1 ≤ d.contacts) where
  -- A gate's line, or a rail of such a level.
  abbrev pub Used : ℕ → Type 0
  Used y = (gate_line d.contacts ≤ y) ⊎ ((i : ℕ) × (t : Bool) × (i < d.contacts) × (y ≡ rail_of i t) × Branches d i)

  laid : Each (LaidGate Used (λ _. 0) (depth_most d)) (gate_line d.contacts) (board_of d).gates
      × MatrixLies Used (λ _. 0) (depth_most d) (line_count (board_of d)) (whole_block d).1
  laid =
      board-lays d some Used (λ _. 0) (λ x h. refl) (λ l h b. (inr (l, true, h, refl, b), inr (l, false, h, refl, b)))
      (record { has = λ i h. (inl (omega arith), omega arith) })

  -- A constant, or a line of the board that is used.
  abbrev Source : ℕ → Type 0
  Source y = (y < 2) ⊎ (Used y × (y < line_count (board_of d)))

  entry-source : {e : ℕ} {t : Entry} → OfLine (Lies Used (λ _. 0) e (line_count (board_of d))) t → Source (line_of t)
  entry-source never = inl (omega arith)
  entry-source always = inl (omega arith)
  entry-source (line l) = inr (l.has, l.below)

  pub read-used : (y : ℕ) → 2 ≤ y → is_read (board_of d) y ≡ true → Used y × (y < line_count (board_of d))
  unfolding board_of
  read-used y low e =
      ⊎_elim (λ h. absurd (omega arith)) (λ u. u)
      (read_has (board_of d) y any_gate (record { on = 0; off = 0 }) Source
      (λ g h. let w = laid.0.has g h in (inr (w.left.0, omega arith), inr (w.right.0, omega arith)))
      (λ j h.
      rw (pairs-at d j (record { on = 0; off = 0 }) (omega (arith, pairs-length d)))
      (entry-source (table_at laid.1 (root d j) 1), entry-source (table_at laid.1 (root d j) 0)))
      e)
