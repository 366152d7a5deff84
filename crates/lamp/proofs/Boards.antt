-- The lamp of an accepted table's board: what its lines show.
use Prim.Native.Nat.{ℕ, ◌*◌, ◌-◌, ◌≤◌, ◌<◌}
use native.Mathlib.Omega.{arith}
use mathlib.Core.Path.{◌≡◌, ap, ◌∙◌}
use mathlib.Core.Bool.{true}
use mathlib.Core.List.{List, []}
use borrow.Author.Tests.{ne_eqb}
use lib.ListN.{length, get_or}
use Rattle.fields.specs.Bounded.{all}
use Rattle.fields.proofs.Bounded.{all_of, all-agree}
use Rattle.fields.proofs.Every.{Every}
use Rattle.diagram.specs.declared.Diagram.{Diagram}
use Rattle.diagram.specs.Diagram.{Input, value_at}
use Rattle.diagram.proofs.Paths.{value-bit}
use Rattle.table.specs.Promises.{Accepted}
use Rattle.table.specs.Table.{diagram_in}
use Rattle.table.proofs.Accepted.{AcceptedTable, accepted}
use Rattle.netlist.specs.declared.Hold.{Hold}
use Rattle.netlist.specs.Netlist.{line_count}
use Rattle.netlist.proofs.Sound.{PairIn, Wired, PairsWired}
use Rattle.simulation.proofs.Monotone.{AllHeld}
use Rattle.rules.specs.Board.{board_of}
use Rattle.rules.specs.Lamp.{no_pair, lamp_of, with_lamp}
use Rattle.rules.proofs.Codes.{code-length, code-bits}
use Rattle.rules.proofs.Held.{shown, run-model}
use Rattle.rules.proofs.Models.{code_of}
use Rattle.rules.proofs.Pairs.{pair, pairs-length, pairs-at}
use Rattle.rules.proofs.Values.{model-right}
use Rattle.rules.proofs.Wired.{board-wired, pairs-wired}
use Rattle.lamp.proofs.Extended.{plain-line}
use Rattle.lamp.proofs.Joins.{is_code}
use Rattle.lamp.proofs.Lamps.{lamp-code}
use Rattle.lamp.proofs.Shown.{StandsAt, output-stands, lamp-stands}

module _ (table : List ℕ) (yes! : Accepted table) where
  abbrev pub d : Diagram
  d = diagram_in table

  pub taken : AcceptedTable table
  taken = accepted table yes!.1

  pub some : 1 ≤ d.contacts
  some = taken.sized.contacts.0

  pub outputs : length (board_of d).pairs ≡ d.outputs
  outputs = pairs-length d

  pub some_pairs : 1 ≤ length (board_of d).pairs
  some_pairs = omega (arith, outputs, taken.sized.outputs)

  pub wired : Wired (board_of d)
  wired = board-wired d some

  pub pairs : PairsWired (board_of d)
  pairs = pairs-wired d some

  pub lines-in : (j : ℕ) → j < d.outputs → PairIn (line_count (board_of d)) (pair d j)
  lines-in j h = rw (pairs-at d j no_pair h) at (pairs j no_pair (omega (arith, outputs)))

  pub output-at : (vs : List ℕ) (j : ℕ) → j < d.outputs → StandsAt (with_lamp (board_of d)) vs j (pair d j)
  output-at vs j h = rw (pairs-at d j no_pair h) at (output-stands (board_of d) vs j (omega (arith, outputs)))

  pub lamp-at : (vs : List ℕ) → StandsAt (with_lamp (board_of d)) vs d.outputs (lamp_of (board_of d)).1
  lamp-at vs = rw outputs at (lamp-stands (board_of d) vs)

  pub board-code : (rails : List ℕ) → length rails ≡ 2 * d.contacts → ((i : ℕ) → get_or rails i 0 ≤ 1) → (holds : List Hold) →
      AllHeld (λ v. v ≤ 1) holds → Every (λ (h : Hold). h.line < line_count (board_of d)) holds →
      let ν = shown (with_lamp (board_of d)) rails holds in
      is_code ν (lamp_of (board_of d)).1 ≡ all d.outputs (λ j. is_code ν (pair d j))
  unfolding board_of
  board-code rails count bits holds values lines =
      let ν = shown (with_lamp (board_of d)) rails holds in
      (rw outputs at (lamp-code (board_of d) some_pairs wired pairs rails count bits holds values lines))
      ∙ all-agree d.outputs _ (λ j. is_code ν (pair d j)) (λ j h. ap (is_code ν) (pairs-at d j no_pair h))

  -- At a code input with none held.
  module _ (x : Input) where
    abbrev pub free : ℕ → ℕ
    free = shown (with_lamp (board_of d)) (code_of (with_lamp (board_of d)) x) []

    pub pair-right : (j : ℕ) → j < d.outputs → (free (pair d j).on ≡ value_at d x j) × (free (pair d j).off ≡ 1 - value_at d x j)
    unfolding with_lamp
    pair-right j h =
        let right = model-right d x _ (run-model (board_of d) wired x) taken.reduced.ranged some j h in
        let same = plain-line (board_of d) (code_of (board_of d) x) [] (code-length x (board_of d).contacts) in
        let p = lines-in j h in
        (same _ p.on ∙ right.0, same _ p.off ∙ right.1)

    pub pair_code : (j : ℕ) → j < d.outputs → is_code free (pair d j) ≡ true
    pair_code j h =
        let (on, off) = pair-right j h in
        let bit = value-bit d taken.reduced.ranged x j h in
        let ne : free (pair d j).on ≡ free (pair d j).off → ⊥ = λ e. omega arith in
        rw (ne_eqb _ _ ne)

    pub free-code : is_code free (lamp_of (board_of d)).1 ≡ true
    unfolding with_lamp board_of
    free-code =
        board-code (code_of (with_lamp (board_of d)) x) (code-length x d.contacts) (code-bits x d.contacts) [] tt tt
        ∙ all_of _ d.outputs pair_code
