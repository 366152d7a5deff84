-- No stuck line that is read stays unseen: at some input it makes the pair of some output show its own value twice.
use Prim.Native.Nat.{ℕ, zero, suc, ◌+◌, ◌≤◌, ◌<◌}
use native.Mathlib.Decide.{ℕ_discrete}
use native.Mathlib.Nat.{zero-add}
use native.Mathlib.Omega.{arith}
use mathlib.Core.Path.{◌≡◌, refl, sym, ◌∙◌}
use mathlib.Core.Bool.{Bool, true}
use mathlib.Core.Logic.{by_cases, ⊎_elim}
use Rattle.diagram.specs.declared.Diagram.{Diagram}
use Rattle.diagram.specs.Diagram.{Input, path, value_at}
use Rattle.diagram.proofs.Paths.{Branches, width-last, value-bit}
use Rattle.diagram.proofs.Unique.{Reduced}
use Rattle.netlist.specs.Netlist.{gate_line, line_count, is_read}
use Rattle.rules.specs.declared.Entry.{Entry}
use Rattle.rules.specs.declared.Entry.TheVariants.{Never, Always, Line}
use Rattle.rules.specs.Blocks.{size, cut}
use Rattle.rules.specs.Board.{line_of, whole_block, board_of}
use Rattle.rules.proofs.Valuations.{shows}
use Rattle.rules.proofs.Cuts.{size-cut}
use Rattle.rules.proofs.Pairs.{whole_entry, pair}
use Rattle.rules.proofs.Models.{Gates, OneSided, gates-down, rails-down, gates-up, rails-up}
use Rattle.rules.proofs.Values.{board-down, board-up}
use Rattle.faults.proofs.Routes.{node_at}
use Rattle.faults.proofs.Shown.{Low, High, Spoils}
use Rattle.faults.proofs.TreeHits.{Cuts}
use Rattle.faults.proofs.GatesShown.{gate-faults, gate-shown}
use Rattle.faults.proofs.RailsShown.{rail_of, rail-shown}
use Rattle.faults.proofs.ReadRails.{read-used}

-- A fault at b, where the lines' values have H, is betrayed: at some input some pair shows b twice, whatever else is held at b.
abbrev pub BetrayedBy : Diagram → ((ℕ → ℕ) → Type 0) → ℕ → Type 0
BetrayedBy d H b =
    (x : Input) × (j : ℕ) × (j < d.outputs)
    × ((ν : ℕ → ℕ) → OneSided (board_of d) x b ν → H ν → (ν (pair d j).on ≡ b) × (ν (pair d j).off ≡ b))

-- Line y held at b is.
abbrev pub Betrayed : Diagram → ℕ → ℕ → Type 0
Betrayed d y b = BetrayedBy d (λ ν. ν y ≡ b) b

shown-line : (ν : ℕ → ℕ) (e : Entry) → ν 0 ≡ 0 → ν 1 ≡ 1 → ν (line_of e) ≡ shows ν e
shown-line ν Never low high = low
shown-line ν Always low high = high
shown-line ν (Line x) low high = refl

remaining : (a b c : ℕ) → a < 2 → b < 2 → c < 2 → (b ≡ a → ⊥) → (a ≡ c → ⊥) → c ≡ b
remaining a b c ha hb hc ne ne' = omega arith

module _ (d : Diagram) (some : 1 ≤ d.contacts) (reduced : Reduced d) where
  module _ (H : (ℕ → ℕ) → Type 0) where
    -- A fault that spoils an entry of the whole block shows at a pair.
    low-betrayed : Low d H (cut d.contacts) 0 (gate_line d.contacts) → BetrayedBy d H 0
    unfolding board_of whole_block path value_at
    low-betrayed (j, hj, x, low) = (x, j, hj, go)
      where
        end : node_at d x j (0 + size (cut d.contacts)) ≡ value_at d x j
        end = rw (size-cut d.contacts some, zero-add d.contacts)

        go : (ν : ℕ → ℕ) → OneSided (board_of d) x 0 ν → H ν → (ν (pair d j).on ≡ 0) × (ν (pair d j).off ≡ 0)
        go ν s o = (dark 1 leads.0, dark 0 leads.1)
          where
            leads : (ν (pair d j).on ≡ 1 → value_at d x j ≡ 1) × (ν (pair d j).off ≡ 1 → value_at d x j ≡ 0)
            leads = board-down d reduced.ranged some x ν s j hj

            dark : (v : ℕ) → (ν (line_of (whole_entry d j v)) ≡ 1 → value_at d x j ≡ v) → ν (line_of (whole_entry d j v)) ≡ 0
            dark v to =
                let e = whole_entry d j v in
                let ne : ν (line_of e) ≡ 1 → ⊥ = λ p.
                low ν (rails-down x s) (gates-down x s) o
                (rw (end ∙ to p) (sym (shown-line ν e s.low s.high) ∙ p)) in
                omega (arith, s.bits (line_of e))

    pub high-betrayed : High d H (cut d.contacts) 0 0 (gate_line d.contacts) → BetrayedBy d H 1
    unfolding board_of whole_block path value_at
    high-betrayed (j, hj, x, v, hv, wrong, high) = (x, j, hj, go)
      where
        bit-v : v < 2
        bit-v = rw (size-cut d.contacts some, zero-add d.contacts, width-last d) at hv

        go : (ν : ℕ → ℕ) → OneSided (board_of d) x 1 ν → H ν → (ν (pair d j).on ≡ 1) × (ν (pair d j).off ≡ 1)
        go ν s o = (lit 1 (omega arith) leads.0, lit 0 (omega arith) leads.1)
          where
            leads : (value_at d x j ≡ 1 → ν (pair d j).on ≡ 1) × (value_at d x j ≡ 0 → ν (pair d j).off ≡ 1)
            leads = board-up d reduced.ranged some x ν s j hj

            lit : (c : ℕ) → c < 2 → (value_at d x j ≡ c → ν (line_of (whole_entry d j c)) ≡ 1) →
                ν (line_of (whole_entry d j c)) ≡ 1
            lit c hc from =
                by_cases (ℕ_discrete (value_at d x j) c) from (λ ne.
                let p = remaining (value_at d x j) v c (value-bit d reduced.ranged x j hj) bit-v hc wrong ne in
                shown-line ν (whole_entry d j c) s.low s.high
                ∙ rw p (high ν (rails-up x s) (gates-up x s) o))

  betrayed : (y : ℕ) → Spoils d y (cut d.contacts) 0 0 (gate_line d.contacts) → (b : ℕ) → b ≤ 1 → Betrayed d y b
  betrayed y s zero h = low-betrayed (λ ν. ν y ≡ 0) s.low
  betrayed y s (suc zero) h = high-betrayed (λ ν. ν y ≡ 1) s.high
  betrayed y s (suc (suc b)) h = absurd (omega arith)

  pub whole : 0 + size (cut d.contacts) + 0 ≡ d.contacts
  whole = omega (arith, size-cut d.contacts some)

  -- A fault at 0 of the gate of line y.
  pub no-unseen-cut : (H : (ℕ → ℕ) → Type 0) (y : ℕ) → gate_line d.contacts ≤ y → y < line_count (board_of d) →
      Gates (Cuts H y) (board_of d) → BetrayedBy d H 0
  unfolding board_of whole_block
  no-unseen-cut H y from below cuts =
      low-betrayed H (gate-faults d reduced y H (cut d.contacts) 0 0 _ whole cuts (record { from = from; below = below })).0

  -- A gate's line.
  pub no-unseen-gate : (y b : ℕ) → gate_line d.contacts ≤ y → y < line_count (board_of d) → b ≤ 1 → Betrayed d y b
  unfolding board_of whole_block
  no-unseen-gate y b from below =
      betrayed y (gate-shown d reduced y (cut d.contacts) 0 0 _ whole (record { from = from; below = below })) b

  -- A rail of a level that has a node with different edges.
  pub no-unseen-rail : (i : ℕ) (t : Bool) (b : ℕ) → i < d.contacts → Branches d i → b ≤ 1 → Betrayed d (rail_of i t) b
  no-unseen-rail i t b h branch =
      betrayed (rail_of i t)
      (rail-shown d reduced i t branch (cut d.contacts) 0 0 _ whole (omega arith) (omega (arith, whole))) b

  -- Every line that a gate or output reads.
  pub no-unseen : (y b : ℕ) → 2 ≤ y → is_read (board_of d) y ≡ true → b ≤ 1 → Betrayed d y b
  no-unseen y b from read h =
      let (used, below) = read-used d some y from read in
      ⊎_elim (λ l. no-unseen-gate y b l below h) (λ (i, t, l, e, branch). rw e (no-unseen-rail i t b l branch h)) used
