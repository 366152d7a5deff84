-- What probe returns and leaves, question by question.
use Prim.Native.Nat.{ℕ, zero, suc, ◌+◌, ◌*◌}
use mathlib.Core.Path.{◌≡◌, refl, sym, ap, ap₂, ◌∙◌}
use mathlib.Core.List.{List, [], ◌∷◌}
use lib.ListN.{length}
use Rattle.fields.specs.Refusals.{first_no}
use Rattle.fields.proofs.Refusals.{first-no}
use Rattle.diagram.specs.declared.Diagram.{Diagram}
use Rattle.table.specs.Table.{table_refusal}
use Rattle.drive.specs.declared.Holds.{Holds}
use Rattle.drive.specs.declared.Holds.TheVariants.{Ordered, Disordered}
use Rattle.files.specs.declared.room.Room.TheVariants.{Enough, Short}
use Rattle.netlist.specs.Netlist.{Netlist, gate_line, line_count, hold_at, file_with, file_of, net_of}
use Rattle.drive.specs.Questions.{holds_number}
use Rattle.files.specs.declared.refusal.Refusal.{Refusal}
use Rattle.files.specs.Refusals.{number_of}
use Rattle.files.specs.Room.{room_of, room_number}
use Rattle.files.proofs.Refusals.{not_zero}
use Rattle.files.proofs.Buffers.{enough}
use Rattle.rules.specs.Board.{board_of}
use Rattle.stuck.proofs.Made.{length-is}
use Rattle.synthesis.proofs.Services.{Unrefused}
use Rattle.stuck.specs.Inner.Findings.{ProbeReady, AcceptedDiagram}
use Rattle.stuck.specs.declared.fanout.Fanout.{Fanout}
use Rattle.stuck.specs.declared.fanout.Fanout.TheVariants.{Read, Unread}
use Rattle.stuck.specs.Service.{one_hold, fanout_of, fanout_number, board_answers, Answer, Probing, probe_refusal, refused_probe, probing_with, probing_of}
use Rattle.stuck.specs.Inner.Probing.{probing_on}
use Rattle.stuck.proofs.Boards.{gates_on, pairs_on, net-is, file-is, lampless, sized, findable}

abbrev probing : Answer → List ℕ → Probing Answer
probing r after = record { answer = r; buffer = after }

-- What probe returns, and what it leaves in the buffer.
abbrev pub ProbeLeaves : List ℕ → List ℕ → List ℕ → Answer → List ℕ → Type 0
ProbeLeaves table hold buffer r after = probing r after ≡ probing_of table hold buffer

-- The same of a board.
abbrev pub ProbeLeavesOn : Netlist → List ℕ → List ℕ → Answer → List ℕ → Type 0
ProbeLeavesOn net hold buffer r after = probing r after ≡ probing_on net hold buffer

module _ (table hold buffer : List ℕ) where
  refused : (k : ℕ) {r : Answer} → probe_refusal table hold (length buffer) ≡ k → (k ≡ 0 → ⊥) → r ≡ refused_probe k →
      ProbeLeaves table hold buffer r buffer
  unfolding probing_of
  refused zero e h a = absurd (h refl)
  refused (suc k) e h a = rw e (ap (λ (r : Answer). probing r buffer) a)

  pub table-refused : (r : Refusal) → number_of r ≡ table_refusal table → ProbeLeaves table hold buffer (refused_probe (number_of r)) buffer
  unfolding probe_refusal
  table-refused r e = refused (number_of r) (rw (← e) (first-no (number_of r) _ (not_zero r))) (not_zero r) refl

  -- Once the table has its yes, the answers are those of its diagram's board.
  pub probe-done : {d : Diagram} {r : Answer} {after : List ℕ} → Unrefused table d → ProbeLeavesOn (board_of d) hold buffer r after →
      ProbeLeaves table hold buffer r after
  unfolding probing_of probe_refusal first_no
  probe-done u w = rw (← u.yes) (rw u.is at w)

-- A diagram's board that is made, question by question.
module _ {d : Diagram} (drawn : AcceptedDiagram d) {made : ℕ} (count : made ≡ length (board_of d).gates) where
  abbrev lines : ℕ
  lines = gate_line d.contacts + made

  abbrev wanted : ℕ
  wanted = 10 + 5 * made + 4 * d.outputs + lines

  pub lines_are : lines ≡ line_count (board_of d)
  unfolding board_of
  lines_are = ap (λ (k : ℕ). gate_line d.contacts + k) count

  contacts-are : d.contacts ≡ (board_of d).contacts
  unfolding board_of
  contacts-are = refl

  size_is : 10 + 5 * made + 4 * d.outputs ≡ length (file_of (board_of d))
  size_is = length-is d (sized drawn) count

  module _ (hold buffer : List ℕ) where
    -- The number of the first no.
    abbrev number : ℕ
    number = first_no (board_answers (board_of d) hold (length buffer))

    abbrev order : Holds
    order = one_hold (gate_line d.contacts) lines hold

    abbrev fanout : Fanout
    fanout = fanout_of (board_of d) (hold_at hold 0).line

    abbrev numbered : ℕ → ℕ → ℕ → ℕ
    numbered n lines size =
        first_no
        (holds_number (one_hold (gate_line n) lines hold) ∷ fanout_number fanout ∷ room_number (room_of (size + lines) (length buffer)) ∷ [])

    asked : number ≡ numbered d.contacts lines (10 + 5 * made + 4 * d.outputs)
    asked = λ i. numbered (sym contacts-are i) (sym lines_are i) (sym size_is i)

    stopped : (k : ℕ) {r : Answer} → number ≡ suc k → r ≡ refused_probe (suc k) → ProbeLeavesOn (board_of d) hold buffer r buffer
    stopped k e a = rw e (ap (λ (r : Answer). probing r buffer) a)

    pub disordered : {r : Answer} → order ≡ Disordered → r ≡ refused_probe 14 → ProbeLeavesOn (board_of d) hold buffer r buffer
    unfolding first_no
    disordered o = stopped 13 (asked ∙ rw o)

    pub unread : {r : Answer} → order ≡ Ordered → fanout ≡ Unread → r ≡ refused_probe 15 →
        ProbeLeavesOn (board_of d) hold buffer r buffer
    unfolding first_no
    unread o f = stopped 14 (asked ∙ rw (o, f))

    module _ (o : order ≡ Ordered) (f : fanout ≡ Read) where
      pub short : {r : Answer} → room_of wanted (length buffer) ≡ Short → r ≡ refused_probe 9 → ProbeLeavesOn (board_of d) hold buffer r buffer
      unfolding first_no
      short e = stopped 8 (asked ∙ rw (o, f, e))

      module _ {gates pairs : List ℕ} (g : gates ≡ gates_on (board_of d)) (p : pairs ≡ pairs_on (board_of d))
          (e : room_of wanted (length buffer) ≡ Enough) where
        pub ready : ProbeReady d.contacts gates pairs hold (length buffer)
        unfolding board_of
        ready =
            rw (g, p)
            (findable drawn hold (length buffer) (rw lines_are at o)
            (rw (← lines_are, ← size_is) (enough wanted (length buffer) e)))

        pub found : {r : Answer} {after : List ℕ} →
            probing r after ≡ probing_with (file_with d.contacts gates pairs []) (net_of d.contacts gates pairs) (hold_at hold 0) buffer →
            ProbeLeavesOn (board_of d) hold buffer r after
        unfolding first_no
        found w =
            let net = board_of d in
            let none : number ≡ 0 = asked ∙ rw (o, f, e) in
            rw none
            (rw (contacts-are, g, p) at w
            ∙ ap₂ (λ (file : List ℕ) (net : Netlist). probing_with file net (hold_at hold 0) buffer) (file-is net (lampless d))
            (net-is net (lampless d)))
