-- Spare contacts: a line of a board is read exactly if some code input betrays it, and a rail exactly if some output's value depends
-- on its contact.
use Prim.Native.Nat.{ℕ, ◌-◌, ◌≤◌, ◌<◌}
use native.Mathlib.Omega.{arith}
use mathlib.Core.Path.{◌≡◌, refl, sym, ◌∙◌}
use mathlib.Core.Bool.{Bool, true, false, true≢false}
use mathlib.Core.List.{[], ◌∷◌}
use mathlib.Core.Logic.{⊎_elim}
use Rattle.diagram.specs.declared.Diagram.{Diagram}
use Rattle.diagram.specs.Diagram.{root, Input, input_of, value_at}
use Rattle.diagram.proofs.Ignored.{ignored, depends}
use Rattle.diagram.proofs.Paths.{Branches}
use Rattle.diagram.proofs.Unique.{Reduced}
use Rattle.netlist.specs.declared.Hold.{Hold}
use Rattle.netlist.specs.Netlist.{gate_line, line_count, is_read}
use Rattle.netlist.proofs.Readers.{pair-elsewhere}
use Rattle.table.specs.Table.{diagram_in}
use Rattle.table.proofs.Accepted.{accepted}
use Rattle.rules.specs.Board.{board_of}
use Rattle.rules.proofs.Codes.{code-length}
use Rattle.rules.proofs.Held.{shown, one-way-run, run-model}
use Rattle.rules.proofs.Makes.{any_gate}
use Rattle.rules.proofs.Models.{code_of}
use Rattle.rules.proofs.Pairs.{pair, pairs-length, pairs-at}
use Rattle.rules.proofs.Values.{model-right}
use Rattle.rules.proofs.Wired.{board-wired, entry-wired}
use Rattle.faults.specs.Betrayal.{stuck_at}
use Rattle.faults.specs.Spare.{GatesRead, SpareContacts, UnreadUnseen}
use Rattle.faults.proofs.Betrayed.{shows-by}
use Rattle.faults.proofs.HeldLines.{held-shows}
use Rattle.faults.proofs.NoUnseen.{Betrayed, no-unseen-gate, no-unseen-rail}
use Rattle.faults.proofs.RailsShown.{rail_of}
use Rattle.faults.proofs.ReadRails.{read-used}
use Rattle.faults.proofs.Unread.{same_line}

rail-line : (i : ℕ) (t : Bool) (n : ℕ) → i < n → (2 ≤ rail_of i t) × (rail_of i t < gate_line n)
rail-line i true n h = (omega arith, omega arith)
rail-line i false n h = (omega arith, omega arith)

rail-contact : (i k : ℕ) (t s : Bool) → rail_of i t ≡ rail_of k s → k ≡ i
rail-contact i k true true e = omega arith
rail-contact i k true false e = absurd (omega arith)
rail-contact i k false true e = absurd (omega arith)
rail-contact i k false false e = omega arith

module _ (d : Diagram) (some : 1 ≤ d.contacts) (reduced : Reduced d) where
  -- With a line held that nothing reads each pair is right.
  unread-right : (h : Hold) → is_read (board_of d) h.line ≡ false → (x : Input) (j : ℕ) → j < d.outputs →
      let ν = shown (board_of d) (code_of (board_of d) x) (h ∷ []) in
      (ν (pair d j).on ≡ value_at d x j) × (ν (pair d j).off ≡ 1 - value_at d x j)
  unread-right h unread x j l =
      let net = board_of d in
      let wired = board-wired d some in
      let (on, off) = model-right d x _ (run-model net wired x) reduced.ranged some j l in
      let (not_on, not-off) = rw (pairs-at d j (pair d j) l) at
      (pair-elsewhere net h.line any_gate (pair d j) unread j (omega (arith, pairs-length d))) in
      let same = same_line net wired (code_of net x) (code-length x net.contacts) h unread in (
        same _ (entry-wired d some (root d j) 1) (λ e. not_on (sym e)) ∙ on,
        same _ (entry-wired d some (root d j) 0) (λ e. not-off (sym e)) ∙ off,
      )

  -- So a line that is betrayed is read.
  betrayed-read : (y : ℕ) → 2 ≤ y → y < line_count (board_of d) → Betrayed d y 0 → is_read (board_of d) y ≡ true
  betrayed-read y low high (x, j, l, shows) = go (is_read (board_of d) y) refl
    where
      go : (t : Bool) → is_read (board_of d) y ≡ t → t ≡ true
      go true e = refl
      go false e =
          let wired = board-wired d some in
          let run = one-way-run (board_of d) wired x 0 (omega arith) (record { line = y; value = 0 } ∷ []) (refl, tt) in
          let stuck = shows _ run (held-shows (board_of d) wired x 0 (omega arith) y low high) in
          let right = unread-right (record { line = y; value = 0 }) e x j l in
          absurd (omega arith)

  pub gate-read : (y : ℕ) → gate_line d.contacts ≤ y → y < line_count (board_of d) → is_read (board_of d) y ≡ true
  gate-read y from below = betrayed-read y (omega arith) below (no-unseen-gate d some reduced y 0 from below (omega arith))

  module _ (i : ℕ) (h : i < d.contacts) where
    pub rail-read : (t : Bool) → Branches d i → is_read (board_of d) (rail_of i t) ≡ true
    unfolding board_of
    rail-read t branch =
        let (low, high) = rail-line i t d.contacts h in
        betrayed-read (rail_of i t) low (omega arith) (no-unseen-rail d some reduced i t 0 h branch (omega arith))

    read-branches : (t : Bool) → is_read (board_of d) (rail_of i t) ≡ true → Branches d i
    read-branches t e =
        let (low, high) = rail-line i t d.contacts h in
        ⊎_elim (λ l. absurd (omega arith)) (λ (k, s, _, same, branch). rw (rail-contact i k t s same) at branch)
        (read-used d some (rail_of i t) low e).0

    pub rail-unread : (t : Bool) → (Branches d i → ⊥) → is_read (board_of d) (rail_of i t) ≡ false
    rail-unread t straight = go (is_read (board_of d) (rail_of i t)) refl
      where
        go : (b : Bool) → is_read (board_of d) (rail_of i t) ≡ b → b ≡ false
        go false e = refl
        go true e = absurd (straight (read-branches t e))

    -- Either both rails of a contact are read or neither is.
    rails-alike : is_read (board_of d) (rail_of i true) ≡ is_read (board_of d) (rail_of i false)
    rails-alike = go (is_read (board_of d) (rail_of i true)) (is_read (board_of d) (rail_of i false)) refl refl
      where
        go : (a b : Bool) → is_read (board_of d) (rail_of i true) ≡ a → is_read (board_of d) (rail_of i false) ≡ b → a ≡ b
        go true b e f = sym (rail-read false (read-branches true e)) ∙ f
        go false true e f = sym e ∙ rail-read true (read-branches false f)
        go false false e f = refl

pub gates-read : GatesRead
gates-read table (bytes, all) =
    let a = accepted table all in
    gate-read (diagram_in table) a.sized.contacts.0 a.reduced

pub spare-contacts : SpareContacts
spare-contacts table (bytes, all) i h =
    let d = diagram_in table in
    let a = accepted table all in
    let some = a.sized.contacts.0 in
    let r = a.reduced in (
      rails-alike d some r i h,
      (λ e. ignored d r i h (λ branch. true≢false (sym (rail-read d some r i h true branch) ∙ e))),
      (λ ignores. rail-unread d some r i h true (depends d r i h ignores)),
    )

pub unread-unseen : UnreadUnseen
unfolding stuck_at
unread-unseen table (bytes, all) line b unread n j h =
    let d = diagram_in table in
    let a = accepted table all in
    let (on, off) = unread-right d a.sized.contacts.0 a.reduced (record { line = line; value = b }) unread (input_of n) j h in
    shows-by d _ j h _ _ on off
