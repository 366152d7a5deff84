-- One line of a board held at a value: where some output's pair shows this value twice, so does the lamp.
use Prim.Native.Nat.{ℕ, ◌≤◌, ◌<◌}
use native.Mathlib.Omega.{arith}
use mathlib.Core.Path.{◌≡◌, sym, ap, ap₂, ◌∙◌}
use mathlib.Core.Bool.{true, false, not}
use mathlib.Core.List.{List, [], ◌∷◌}
use mathlib.Core.Logic.{⊎_elim}
use borrow.Author.Tests.{eq-eqb}
use lib.Dec.{eqb}
use lib.ListN.{get_or}
use Rattle.fields.proofs.Bounded.{all-not}
use Rattle.diagram.specs.Diagram.{input_of}
use Rattle.table.specs.Promises.{Accepted}
use Rattle.table.specs.Table.{diagram_in}
use Rattle.netlist.specs.declared.Hold.{Hold}
use Rattle.netlist.specs.Netlist.{Netlist, line_count}
use Rattle.rules.specs.Board.{board_of, table_board}
use Rattle.rules.specs.Lamp.{lamp_of, with_lamp, lamp_board}
use Rattle.rules.proofs.Codes.{code-length, code-bits}
use Rattle.rules.proofs.Held.{shown}
use Rattle.rules.proofs.Models.{code_of}
use Rattle.rules.proofs.Pairs.{pair}
use Rattle.rules.proofs.Shown.{board-on, board-off}
use Rattle.faults.specs.Betrayal.{stuck_at}
use Rattle.faults.specs.Promises.{Shows}
use Rattle.lamp.proofs.Boards.{lines-in, board-code, free-code, output-at, lamp-at}
use Rattle.lamp.proofs.Extended.{plain-line}
use Rattle.lamp.proofs.Joins.{is_code}
use Rattle.lamp.proofs.OneSided.{code_same}
use Rattle.lamp.proofs.Shown.{shows-by}

module _ (table : List ℕ) (yes! : Accepted table) (h : Hold) (bound : h.value ≤ 1)
    (inside : h.line < line_count (table_board table)) (a j : ℕ) (l : j < (diagram_in table).outputs) where
  abbrev plain : Netlist
  plain = table_board table

  abbrev rails : List ℕ
  rails = code_of (lamp_board table) (input_of a)

  -- What line y shows on the board with its lamp.
  abbrev stuck : ℕ → ℕ
  stuck = shown (lamp_board table) rails (h ∷ [])

  module _ (seen : Shows plain (stuck_at plain h a) j h.value h.value) where
    same : (y : ℕ) → y < line_count plain → stuck y ≡ get_or (stuck_at plain h a) y 0
    unfolding with_lamp stuck_at
    same = plain-line plain (code_of plain (input_of a)) (h ∷ []) (code-length (input_of a) plain.contacts)

    on-held : stuck (pair (diagram_in table) j).on ≡ h.value
    on-held = same _ (lines-in table yes! j l).on ∙ sym (board-on (diagram_in table) _ j l) ∙ seen.0

    off-held : stuck (pair (diagram_in table) j).off ≡ h.value
    off-held = same _ (lines-in table yes! j l).off ∙ sym (board-off (diagram_in table) _ j l) ∙ seen.1

    no_code : is_code stuck (lamp_of plain).1 ≡ false
    unfolding with_lamp board_of
    no_code =
        board-code table yes! rails (code-length (input_of a) plain.contacts) (code-bits (input_of a) plain.contacts)
        (h ∷ []) (omega arith, tt) (inside, tt)
        ∙ all-not _ (diagram_in table).outputs j l (ap not (eq-eqb _ _ (on-held ∙ sym off-held)))

    lamp-held : (stuck (lamp_of plain).1.on ≡ h.value) × (stuck (lamp_of plain).1.off ≡ h.value)
    lamp-held =
        let free = free-code table yes! (input_of a) in
        ⊎_elim
        (λ (p, q).
        let code : false ≡ true = sym no_code ∙ ap₂ (λ (u v : ℕ). not (eqb u v)) p q ∙ free in
        absurd (let z : ◌≡◌ {A = ℕ} 0 1 = cc in omega arith))
        (λ both. both)
        (code_same (lamp_board table) rails (code-bits (input_of a) _) (h ∷ []) h.value bound (omega arith, tt)
        (lamp_of plain).1 free)

    pub both-shown :
        let values = stuck_at (lamp_board table) h a in
        Shows (lamp_board table) values j h.value h.value
        × Shows (lamp_board table) values (diagram_in table).outputs h.value h.value
    unfolding stuck_at
    both-shown = (
      shows-by (output-at table yes! _ j l) on-held off-held,
      shows-by (lamp-at table yes! _) lamp-held.0 lamp-held.1,
    )
