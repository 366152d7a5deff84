-- A rail or constant has depth 0, a gate one more than its deeper source; so a board is at most as deep as the formula says.
use Prim.Native.Nat.{ℕ, zero, suc, ◌+◌, ◌-◌, ◌≤◌, ◌<◌, max}
use native.Mathlib.Nat.{add-zero, le_of_eq, le_trans, mul-le-mul}
use native.Mathlib.Decide.{dec_lt}
use native.Mathlib.Omega.{arith}
use mathlib.Core.Path.{◌≡◌, ◌∙◌}
use mathlib.Core.List.{List, [], ◌∷◌, map}
use lib.ListN.{length, get_or, replicate, length-replicate, get_or-replicate, length-map}
use Rattle.diagram.specs.declared.Diagram.{Diagram}
use Rattle.diagram.specs.Diagram.{width}
use Rattle.netlist.specs.Netlist.{Netlist, gate_line, line_count}
use Rattle.simulation.specs.Run.{gate}
use Rattle.simulation.proofs.Runs.{length_run, run-first}
use Rattle.rules.specs.Board.{board_of, depth_rule, depths_of, largest, depth_of}
use Rattle.rules.specs.Formulas.{widest, depth_most}
use Rattle.rules.proofs.Makes.{any_gate, Each}
use Rattle.rules.proofs.Formulas.{widest-least, log2-least}
use Rattle.rules.proofs.Lays.{LaidGate}
use Rattle.simulation.proofs.Obeys.{gate-obeys}
use Rattle.rules.proofs.Wired.{board-lays, gates-wired}

-- The depth of a line.
abbrev pub depth_at : Netlist → ℕ → ℕ
depth_at net x = get_or (depths_of net) x 0

module _ (net : Netlist) where
  abbrev first : ℕ
  first = gate_line net.contacts

  pub depths-length : length (depths_of net) ≡ line_count net
  unfolding depths_of
  depths-length = length_run _ _ _ ∙ simp (length-replicate, length-map)

  rail-depth : (x : ℕ) → x < first → depth_at net x ≡ 0
  unfolding depths_of
  rail-depth x h =
      run-first depth_rule (map gate net.gates) (replicate first 0) x 0 (rw (length-replicate {A = ℕ} first 0) h)
      ∙ get_or-replicate first x 0 0 h

  pub gate-depth : (g : ℕ) → g < length net.gates →
      let x = first + g in
      let at = get_or net.gates g any_gate in
      at.left < x → at.right < x → depth_at net x ≡ suc (max (depth_at net at.left) (depth_at net at.right))
  unfolding depths_of
  gate-depth g h =
      rw (length-replicate {A = ℕ} first 0, add-zero first) at (gate-obeys depth_rule [] net.gates (replicate first 0) g any_gate h)

pub largest-at : (xs : List ℕ) (i : ℕ) → get_or xs i 0 ≤ largest xs
largest-at [] i = omega arith
largest-at (x ∷ xs) zero = omega arith
largest-at (x ∷ xs) (suc i) = omega (arith, largest-at xs i)

pub largest-most : (xs : List ℕ) (e : ℕ) → ((i : ℕ) → i < length xs → get_or xs i 0 ≤ e) → largest xs ≤ e
largest-most [] e h = omega arith
largest-most (x ∷ xs) e h = omega (arith, h 0 (omega arith), largest-most xs e (λ i l. h (suc i) (omega arith)))

module _ (d : Diagram) (some : 1 ≤ d.contacts) where
  gates-depth : Each (LaidGate (λ x. 2 ≤ x) (depth_at (board_of d)) (depth_most d)) (gate_line d.contacts) (board_of d).gates
  unfolding board_of
  gates-depth =
      (board-lays d some (λ x. 2 ≤ x) (depth_at (board_of d)) (rail-depth (board_of d)) (λ l h b. (omega arith, omega arith)) (record {
        has = λ g h.
            let w = gates-wired d some g h in (omega arith, le_of_eq (gate-depth (board_of d) g h w.1 w.2));
      })).0

  pub line-depth : (x : ℕ) → x < line_count (board_of d) → depth_at (board_of d) x ≤ depth_most d
  unfolding board_of
  line-depth x h = go (dec_lt x (gate_line d.contacts))
    where
      go : Dec (x < gate_line d.contacts) → depth_at (board_of d) x ≤ depth_most d
      go (yes l) = omega (arith, rail-depth (board_of d) x l)
      go (no n) =
          let g = x - gate_line d.contacts in
          let p : gate_line d.contacts + g ≡ x = omega arith in
          rw p at (gates-depth.has g (omega arith)).depth

  pub depth-bound : depth_of (board_of d) ≤ depth_most d
  unfolding depth_of
  depth-bound =
      largest-most (depths_of (board_of d)) (depth_most d) (λ x h. line-depth x (omega (arith, depths-length (board_of d))))

  pub depth-most : d.contacts ≤ 12 → ((l : ℕ) → l ≤ d.contacts → width d l ≤ 8) → depth_of (board_of d) ≤ 16
  unfolding depth_most
  depth-most few narrow =
      let rounds = log2-least d.contacts 4 (omega arith) in
      let each = log2-least (widest d) 3 (widest-least d 8 narrow) in
      le_trans depth-bound (mul-le-mul {m₂ = 4} rounds (omega arith))
