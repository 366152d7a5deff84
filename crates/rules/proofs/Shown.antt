-- The bytes of output j's pair among those that a run shows.
use Prim.Native.Nat.{ℕ, zero, suc, ◌+◌, ◌*◌, ◌<◌}
use native.Mathlib.Nat.{not-suc-le-zero, le_of_suc-le-suc}
use native.Mathlib.Omega.{arith}
use mathlib.Core.Path.{◌≡◌, refl, ap, ◌∙◌}
use mathlib.Core.List.{List, [], ◌∷◌, flat_map}
use lib.ListN.{length, get_or, get_or-append}
use Rattle.diagram.specs.declared.Diagram.{Diagram}
use Rattle.netlist.specs.declared.Pair.{Pair}
use Rattle.netlist.specs.Netlist.{Netlist}
use Rattle.simulation.specs.Run.{shown_of, shown_by}
use Rattle.simulation.proofs.Shown.{length-shown}
use Rattle.rules.specs.Board.{board_of}
use Rattle.rules.proofs.Pairs.{pair, pairs-length, pairs-at}

module _ (vs : List ℕ) (none : Pair) where
  pub shows-on : (pairs : List Pair) (j : ℕ) → j < length pairs →
      get_or (shown_of pairs vs) (2 * j) 0 ≡ get_or vs (get_or pairs j none).on 0
  unfolding shown_of flat_map
  shows-on [] j h = absurd (not-suc-le-zero h)
  shows-on (p ∷ pairs) zero h = refl
  shows-on (p ∷ pairs) (suc j) h =
      let next : 2 * suc j ≡ suc (suc (2 * j)) = omega arith in
      rw next (shows-on pairs j (le_of_suc-le-suc h))

  pub shows-off : (pairs : List Pair) (j : ℕ) → j < length pairs →
      get_or (shown_of pairs vs) (2 * j + 1) 0 ≡ get_or vs (get_or pairs j none).off 0
  unfolding shown_of flat_map
  shows-off [] j h = absurd (not-suc-le-zero h)
  shows-off (p ∷ pairs) zero h = refl
  shows-off (p ∷ pairs) (suc j) h =
      let next : 2 * suc j + 1 ≡ suc (suc (2 * j + 1)) = omega arith in
      rw next (shows-off pairs j (le_of_suc-le-suc h))

-- Of a netlist: the values of the output's lines.
module _ (net : Netlist) (vs : List ℕ) (none : Pair) (j : ℕ) (h : j < length net.pairs) where
  pub output_on : get_or (shown_by net vs) (2 * j) 0 ≡ get_or vs (get_or net.pairs j none).on 0
  output_on =
      get_or-append (shown_of net.pairs vs) (shown_of net.lamp vs) 0 (2 * j) (omega (arith, length-shown vs net.pairs))
      ∙ shows-on vs none net.pairs j h

  pub output-off : get_or (shown_by net vs) (2 * j + 1) 0 ≡ get_or vs (get_or net.pairs j none).off 0
  output-off =
      get_or-append (shown_of net.pairs vs) (shown_of net.lamp vs) 0 (2 * j + 1) (omega (arith, length-shown vs net.pairs))
      ∙ shows-off vs none net.pairs j h

-- Of a board.
module _ (d : Diagram) (vs : List ℕ) (j : ℕ) (h : j < d.outputs) where
  inside : j < length (board_of d).pairs
  inside = rw (pairs-length d) h

  pub board-on : get_or (shown_by (board_of d) vs) (2 * j) 0 ≡ get_or vs (pair d j).on 0
  board-on = output_on (board_of d) vs (pair d j) j inside ∙ ap (λ (p : Pair). get_or vs p.on 0) (pairs-at d j (pair d j) h)

  pub board-off : get_or (shown_by (board_of d) vs) (2 * j + 1) 0 ≡ get_or vs (pair d j).off 0
  board-off = output-off (board_of d) vs (pair d j) j inside ∙ ap (λ (p : Pair). get_or vs p.off 0) (pairs-at d j (pair d j) h)
