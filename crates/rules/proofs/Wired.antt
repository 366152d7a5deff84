-- The board of a diagram is wired: kinds are 0 or 1, sources lie below their gate's own line, pairs name lines of the board.
use Prim.Native.Nat.{ℕ, zero, suc, ◌+◌, ◌*◌, ◌≤◌, ◌<◌}
use native.Mathlib.Nat.{mul-le-mul_right, le_trans, not-suc-le-zero, le_of_suc-le-suc}
use native.Mathlib.Omega.{arith}
use mathlib.Core.Path.{◌≡◌, refl}
use mathlib.Core.List.{List, [], ◌∷◌}
use lib.ListN.{length, get_or}
use Rattle.diagram.specs.declared.Diagram.{Diagram}
use Rattle.diagram.specs.Diagram.{root}
use Rattle.diagram.proofs.Paths.{Branches}
use Rattle.netlist.specs.declared.Gate.{Gate}
use Rattle.netlist.specs.Netlist.{Netlist, gate_line, line_count}
use Rattle.netlist.proofs.Sound.{GateOn, Wired, PairsWired}
use Rattle.rules.specs.declared.Entry.{Entry}
use Rattle.rules.specs.Blocks.{cut, entry_at}
use Rattle.rules.specs.Board.{line_of, whole_block, board_of}
use Rattle.rules.specs.Formulas.{widest, log2up, depth_most}
use Rattle.rules.proofs.Makes.{any_gate, Each, each_weaken}
use Rattle.rules.proofs.Cuts.{size-cut}
use Rattle.rules.proofs.Heights.{height, height-cut}
use Rattle.rules.proofs.Pairs.{pairs-length, pairs-at}
use Rattle.rules.proofs.Formulas.{widest-at, log2-enough}
use Rattle.rules.proofs.Entries.{OfLine, never, always, line}
use Rattle.rules.proofs.Lays.{Lies, Rises, LaidGate}
use Rattle.rules.proofs.Lines.{MatrixLies, table_on, table_at, block-lays}

line-below : {S : ℕ → Type 0} {δ : ℕ → ℕ} {e next : ℕ} {t : Entry} → 2 ≤ next → OfLine (Lies S δ e next) t → line_of t < next
line-below some never = omega arith
line-below some always = omega arith
line-below some (line l) = l.below

any-default : {A : Type 0} (l : List A) (i : ℕ) (a b : A) → i < length l → get_or l i a ≡ get_or l i b
any-default [] i a b h = absurd (not-suc-le-zero h)
any-default (v ∷ l) zero a b h = refl
any-default (v ∷ l) (suc i) a b h = any-default l i a b (le_of_suc-le-suc h)

pub each-wired : (net : Netlist) → Each GateOn (gate_line net.contacts) net.gates → Wired net
each-wired net each g other h = rw (any-default net.gates g other any_gate h) (each.has g h)

pub laid_on : {S : ℕ → Type 0} {δ : ℕ → ℕ} {most : ℕ} (x : ℕ) (g : Gate) → LaidGate S δ most x g → GateOn x g
laid_on x g l = record { kind = l.kind; left = l.left.1; right = l.right.1 }

module _ (d : Diagram) (some : 1 ≤ d.contacts) where
  -- For any depths of the lines that are 0 at the rails and rise by one at most from gate to gate, and any S that the gates' lines
  -- have and the rails of levels that have a node with different edges.
  pub board-lays : (S : ℕ → Type 0) (δ : ℕ → ℕ) → ((x : ℕ) → x < gate_line d.contacts → δ x ≡ 0) →
      ((l : ℕ) → l < d.contacts → Branches d l → S (2 + 2 * l) × S (3 + 2 * l)) →
      Each (Rises S δ) (gate_line d.contacts) (board_of d).gates →
      Each (LaidGate S δ (depth_most d)) (gate_line d.contacts) (board_of d).gates
      × MatrixLies S δ (depth_most d) (line_count (board_of d)) (whole_block d).1
  unfolding board_of whole_block depth_most
  board-lays S δ flat rails rises =
      let n = d.contacts in
      let b = log2up (widest d) in
      let low = height-cut n (log2up n) (log2-enough n) in
      let deep : height (cut n) * suc b ≤ log2up n * (1 + b) = omega (arith, mul-le-mul_right (suc b) low) in
      let (wired, table) = (block-lays d flat rails (depth_most d) b (λ l h. le_trans (widest-at d l h) (log2-enough (widest d)))
      (cut n) 0 (gate_line n) (omega (arith, size-cut n some)) (omega arith) deep).laid rises in
      (wired, table_on deep (omega arith) table)

  flat : Each (LaidGate (λ x. 2 ≤ x) (λ _. 0) (depth_most d)) (gate_line d.contacts) (board_of d).gates
      × MatrixLies (λ x. 2 ≤ x) (λ _. 0) (depth_most d) (line_count (board_of d)) (whole_block d).1
  flat =
      board-lays (λ x. 2 ≤ x) (λ _. 0) (λ x h. refl) (λ l h b. (omega arith, omega arith)) (record { has = λ i h. omega arith })

  pub gates-wired : (g : ℕ) → g < length (board_of d).gates →
      let at = get_or (board_of d).gates g any_gate in
      (at.kind ≤ 1) × (at.left < gate_line d.contacts + g) × (at.right < gate_line d.contacts + g)
  gates-wired g h = let w = flat.0.has g h in omega arith

  pub board-wired : Wired (board_of d)
  unfolding board_of
  board-wired = each-wired (board_of d) (each_weaken laid_on flat.0)

  pub entry-wired : (u v : ℕ) → line_of (entry_at (whole_block d).1 u v) < line_count (board_of d)
  entry-wired u v = line-below (omega arith) (table_at flat.1 u v)

  pub pairs-wired : PairsWired (board_of d)
  pairs-wired j none h =
      rw (pairs-at d j none (omega (arith, pairs-length d)))
      (record { on = entry-wired (root d j) 1; off = entry-wired (root d j) 0 })
