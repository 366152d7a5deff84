-- One line or pin held: each pair is right or the held value twice, and what is shown at the smallest code input that betrays it. Some code
-- input betrays a line that is read.
use Prim.Native.Nat.{ℕ, ◌-◌, ◌^◌, ◌≤◌, ◌<◌}
use native.Mathlib.Omega.{arith}
use mathlib.Core.Path.{◌≡◌, refl, sym, ◌∙◌}
use mathlib.Core.Bool.{true, false, true≢false}
use mathlib.Core.List.{List, [], ◌∷◌}
use mathlib.Core.Logic.{◌⊎◌, ⊎_elim}
use borrow.Author.Tests.{eq-eqb, ne_eqb}
use lib.Dec.{eqb}
use lib.ListN.{length, get_or}
use Rattle.fields.proofs.Bounded.{any_at, none-at}
use Rattle.diagram.specs.declared.Diagram.{Diagram}
use Rattle.diagram.specs.Diagram.{Input, input_of, value_at}
use Rattle.table.proofs.Accepted.{accepted}
use Rattle.diagram.proofs.Inputs.{input_number}
use Rattle.diagram.proofs.Paths.{value-bit}
use Rattle.netlist.specs.declared.Hold.{Hold}
use Rattle.netlist.specs.Netlist.{level_of, is_read}
use Rattle.netlist.proofs.Sound.{Wired}
use Rattle.simulation.specs.Run.{values_of}
use Rattle.rules.specs.Board.{board_of, table_board}
use Rattle.table.specs.Promises.{Accepted}
use Rattle.table.specs.Table.{diagram_in}
use Rattle.rules.proofs.Codes.{code_same}
use Rattle.rules.proofs.Models.{code_of}
use Rattle.rules.proofs.Pairs.{pair, pairs-length, pairs-at}
use Rattle.rules.proofs.Shown.{output_on, board-on, board-off}
use Rattle.rules.proofs.Values.{no-wrong-code}
use Rattle.rules.proofs.Wired.{board-wired}
use Rattle.faults.specs.Betrayal.{stuck_at, no_code, betrays, is_seen, smallest_input, lowest_no_code}
use Rattle.faults.specs.Promises.{Shows, ShowsRight}
use Rattle.rules.proofs.Held.{one-way-run}
use Rattle.faults.proofs.HeldLines.{level-bit, held-shows}
use Rattle.fields.proofs.Least.{First, least_first}
use Rattle.faults.proofs.NoUnseen.{no-unseen}
use Rattle.faults.proofs.ReadRails.{read-used}

-- A board's pair by its lines' values.
module _ (d : Diagram) (vs : List ℕ) (j : ℕ) (h : j < d.outputs) where
  pub shows-by : (a b : ℕ) → get_or vs (pair d j).on 0 ≡ a → get_or vs (pair d j).off 0 ≡ b → Shows (board_of d) vs j a b
  shows-by a b p q = (board-on d vs j h ∙ p, board-off d vs j h ∙ q)

  pub no-code-by : no_code (board_of d).pairs vs j ≡ eqb (get_or vs (pair d j).on 0) (get_or vs (pair d j).off 0)
  unfolding no_code
  no-code-by = rw (pairs-at d j (record { on = 0; off = 0 }) h)

-- Where the two lines of an output's pair show the same value at some code input, the hold is seen.
pub seen_at : (d : Diagram) (h : Hold) (x : Input) (j : ℕ) → j < d.outputs →
    let values = values_of (board_of d) (code_of (board_of d) x) (h ∷ []) in
    get_or values (pair d j).on 0 ≡ get_or values (pair d j).off 0 → is_seen (board_of d) h ≡ true
unfolding is_seen betrays stuck_at board_of
seen_at d h x j l e =
    let (n, small, agrees) = input_number x d.contacts in
    let same = code_same (input_of n) x d.contacts agrees in
    any_at _ (2 ^ d.contacts) n small
    (any_at (no_code (board_of d).pairs (stuck_at (board_of d) h n)) _ j (rw (pairs-length d) l)
    (no-code-by d (stuck_at (board_of d) h n) j l ∙ rw same (eq-eqb _ _ e)))

module _ (table : List ℕ) (yes! : Accepted table) where
  abbrev d : Diagram
  d = diagram_in table

  some : 1 ≤ d.contacts
  some = (accepted table yes!.1).sized.contacts.0

  wired : Wired (board_of d)
  wired = board-wired d some

  -- One line or pin held.
  module _ (h : Hold) where
    abbrev b : ℕ
    b = level_of h

    abbrev values : ℕ → List ℕ
    values a = stuck_at (board_of d) h a

    module _ (a j : ℕ) (l : j < d.outputs) where
      abbrev on : ℕ
      on = get_or (values a) (pair d j).on 0

      abbrev off : ℕ
      off = get_or (values a) (pair d j).off 0

      abbrev value : ℕ
      value = value_at d (input_of a) j

      pair_is : ((on ≡ value) × (off ≡ 1 - value)) ⊎ ((on ≡ b) × (off ≡ b))
      unfolding stuck_at
      pair_is =
          no-wrong-code d (accepted table yes!.1).reduced.ranged some (input_of a) b _ (level-bit h)
          (one-way-run (board_of d) wired (input_of a) b (level-bit h) (h ∷ []) (refl, tt)) j l

      -- A pair that is a code is right, and one that is none shows the held value twice.
      code-right : no_code (board_of d).pairs (values a) j ≡ false → ShowsRight table (input_of a) (values a) j
      code-right e =
          ⊎_elim (λ (p, q). shows-by d (values a) j l _ _ p q)
          (λ (p, q). absurd (true≢false (sym (no-code-by d (values a) j l ∙ eq-eqb on off (p ∙ sym q)) ∙ e)))
          pair_is

      no-code-twice : no_code (board_of d).pairs (values a) j ≡ true → Shows (board_of d) (values a) j b b
      no-code-twice e =
          let bit = value-bit d (accepted table yes!.1).reduced.ranged (input_of a) j l in
          ⊎_elim
          (λ (p, q).
          let ne : on ≡ off → ⊥ = λ r. let z = sym p ∙ r ∙ q in omega (arith, bit) in
          absurd (true≢false (sym e ∙ no-code-by d (values a) j l ∙ ne_eqb on off ne)))
          (λ (p, q). shows-by d (values a) j l _ _ p q)
          pair_is

    -- A code input that does not betray the hold shows the right codes.
    pub unseen-right : (a j : ℕ) → betrays (board_of d) h a ≡ false → j < d.outputs → ShowsRight table (input_of a) (values a) j
    unfolding betrays
    unseen-right a j e l = code-right a j l (none-at (no_code (board_of d).pairs (values a)) _ e j (rw (pairs-length d) l))

    -- Where some code input betrays the hold.
    module _ (seen! : is_seen (board_of d) h ≡ true) where
      abbrev input : ℕ
      input = smallest_input (board_of d) h

      abbrev output : ℕ
      output = lowest_no_code (board_of d).pairs (values input)

      first-input : First (betrays (board_of d) h) (2 ^ d.contacts) input
      unfolding board_of is_seen
      first-input = least_first (betrays (board_of d) h) (2 ^ d.contacts) seen!

      first-output : First (no_code (board_of d).pairs (values input)) (length (board_of d).pairs) output
      unfolding betrays
      first-output = least_first (no_code (board_of d).pairs (values input)) (length (board_of d).pairs) first-input.passes

      inside : output < d.outputs
      inside = omega (arith, pairs-length d, first-output.below)

      pub smallest-at :
          (input < 2 ^ d.contacts) × (output < d.outputs) × Shows (board_of d) (values input) output b b
          × ((a j : ℕ) → a < input → j < d.outputs → ShowsRight table (input_of a) (values a) j)
          × ((j : ℕ) → j < output → ShowsRight table (input_of input) (values input) j)
      smallest-at = (
        first-input.below,
        inside,
        no-code-twice input output inside first-output.passes,
        λ a j l k. unseen-right a j (first-input.none a l) k,
        λ j l. code-right input j (omega (arith, inside)) (first-output.none j l),
      )

      -- The pair's true line shows the held value.
      pub true-at : get_or (values input) (get_or (board_of d).pairs output (record { on = 0; off = 0 })).on 0 ≡ b
      true-at = sym (output_on (board_of d) (values input) (record { on = 0; off = 0 }) output first-output.below) ∙ smallest-at.2.0

  -- One line held that is read: some code input betrays it, and there some pair is the held value twice.
  module _ (y b : ℕ) (low : 2 ≤ y) (read : is_read (table_board table) y ≡ true) (bound : b ≤ 1) where
    abbrev hold : Hold
    hold = record { line = y; value = b }

    pub seen : (a : ℕ) × (a < 2 ^ d.contacts) × (j : ℕ) × (j < d.outputs) × Shows (board_of d) (stuck_at (board_of d) hold a) j b b
    unfolding board_of stuck_at
    seen =
        let (x, j, h, shows) = no-unseen d some (accepted table yes!.1).reduced y b low read bound in
        let (n, below, agrees) = input_number x d.contacts in
        let level : level_of hold ≡ b = omega arith in
        let run = one-way-run (board_of d) wired x b bound (hold ∷ []) (level, tt) in
        let (on, off) = shows _ run (held-shows (board_of d) wired x b bound y low (read-used d some y low read).1) in
        (n, below, j, h, rw (code_same (input_of n) x d.contacts agrees) (shows-by d _ j h b b on off))

    pub betrayed : is_seen (board_of d) hold ≡ true
    unfolding stuck_at
    betrayed =
        let (a, _, j, l, shows) = seen in
        let vs = stuck_at (board_of d) hold a in
        seen_at d hold (input_of a) j l (sym (board-on d vs j l) ∙ shows.0 ∙ sym (sym (board-off d vs j l) ∙ shows.1))
