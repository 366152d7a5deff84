-- Demand 3 of what probe returns and writes.
use Prim.Native.Nat.{ℕ, zero, suc, ◌+◌, ◌≤◌}
use native.Mathlib.Decide.{ℕ_discrete}
use native.Mathlib.Omega.{arith}
use mathlib.Core.Path.{◌≡◌, refl, sym, ◌∙◌}
use mathlib.Core.Bool.{true, true≢false}
use mathlib.Core.List.{List, ◌∷◌}
use mathlib.Core.Logic.{by_cases}
use borrow.Author.Tests.{leb-true, le-leb, lt-leb}
use lib.Dec.{leb}
use lib.ListN.{length}
use Rattle.fields.specs.Refusals.{first_no}
use Rattle.fields.proofs.Refusals.{first-yes, first-only}
use Rattle.table.specs.Table.{table_refusal}
use Rattle.netlist.specs.Netlist.{gate_line, line_count, is_read, site_of, hold_at, file_of}
use Rattle.files.specs.declared.room.Room.{Room}
use Rattle.files.specs.declared.room.Room.TheVariants.{Enough, Short}
use Rattle.files.specs.Room.{room_of, room_number}
use Rattle.drive.specs.declared.Holds.{Holds}
use Rattle.drive.specs.declared.Holds.TheVariants.{Ordered, Disordered}
use Rattle.drive.specs.Questions.{holds_number}
use Rattle.rules.specs.Board.{board_of, table_board}
use Rattle.faults.specs.Betrayal.{stuck_at, is_seen}
use Rattle.faults.proofs.Betrayed.{betrayed}
use Rattle.faults.proofs.Spare.{gates-read}
use Rattle.stuck.specs.Service.{one_hold, probe_refusal, probing_of}
use Rattle.stuck.proofs.Fanouts.{read-zero}
use Rattle.simulation.proofs.Answers.{ordered-zero}
use Rattle.stuck.proofs.OneHold.{one-hold, one-held, held-line}
use Rattle.answers.specs.Answers.{probe_of}
use Rattle.answers.specs.Promises.{Smallest, HiddenIfUnseen, LinesSeen, FifteenForLines, ProbeWrites}
use Rattle.answers.proofs.OneHold.{none-betrays, not_seen, hidden-by, input-by, answered}
use Rattle.answers.proofs.Numbers.{table-numbers}

pub smallest : Smallest
unfolding probe_of probing_of probe_refusal
smallest table hold buffer bytes e =
    rw e (answered table (bytes, (first-yes _ _ e).0) (hold_at hold 0) (is_seen (table_board table) (hold_at hold 0)) refl)

pub hidden-if-unseen : HiddenIfUnseen
unfolding probe_of probing_of board_of
hidden-if-unseen table hold buffer e =
    let net = table_board table in
    let h = hold_at hold 0 in
    rw e (
      λ way. none-betrays net h (hidden-by net h (is_seen net h) way),
      λ none. rw (not_seen net h none) refl,
    )

-- What a probe says that is not refused.
unrefused : (table hold : List ℕ) (lent : ℕ) → probe_refusal table hold lent ≡ 0 →
    let net = table_board table in
    (table_refusal table ≡ 0) × (one_hold (gate_line net.contacts) (line_count net) hold ≡ Ordered)
    × (is_read net (hold_at hold 0).line ≡ true)
unfolding probe_refusal
unrefused table hold lent e =
    let (table-yes, rest) = first-yes _ _ e in
    let (hold-yes, rest) = first-yes _ _ rest in
    (table-yes, ordered-zero _ hold-yes, read-zero _ (first-yes _ _ rest).0)

pub lines-seen : LinesSeen
unfolding probe_of probing_of is_seen board_of
lines-seen table hold buffer bytes e line =
    let net = table_board table in
    let h = hold_at hold 0 in
    let (all, ordered, read) = unrefused table hold (length buffer) e in
    let few : h.value ≤ 1 = omega arith in
    let low : 2 ≤ h.line = rw (le-leb h.value 1 few) at (held-line _ _ hold ordered).after in
    let seen = betrayed table (bytes, all) h.line h.value low read few in
    rw e (λ way. true≢false (sym seen ∙ hidden-by net h (is_seen net h) way))

-- A no of number m that is not the first answer's.
later-no : (m k : ℕ) (ks : List ℕ) → first_no (k ∷ ks) ≡ m → (k ≡ m → ⊥) → (k ≡ 0) × (first_no ks ≡ m)
unfolding first_no
later-no m zero ks e ne = (refl, e)
later-no m (suc k) ks e ne = absurd (ne e)

holds-number : (o : Holds) → holds_number o ≡ 15 → ⊥
holds-number Ordered e = omega arith
holds-number Disordered e = omega arith

room-number : (r : Room) → room_number r ≡ 15 → ⊥
room-number Enough e = omega arith
room-number Short e = omega arith

pub fifteen-for-lines : FifteenForLines
unfolding probe_refusal board_of
fifteen-for-lines table hold lent bytes e =
    let net = table_board table in
    let h = hold_at hold 0 in
    let one = one_hold (gate_line net.contacts) (line_count net) hold in
    by_cases (ℕ_discrete (site_of h) 0) (λ line. line) (λ pin.
    let (all, rest) = later-no 15 _ _ e (λ q. omega (arith, table-numbers table)) in
    let (hold-yes, rest) = later-no 15 _ _ rest (holds-number one) in
    let i = held-line _ _ hold (ordered-zero one hold-yes) in
    let gate : leb (gate_line net.contacts) h.line ≡ true = rw (lt-leb h.value 1 (omega arith)) at i.gate in
    let read = gates-read table (bytes, all) h.line (leb-true _ _ gate) i.within in
    let (_, rest) = later-no 15 _ _ rest (λ q. let z : ◌≡◌ {A = ℕ} 0 15 = rw read at q in omega arith) in
    absurd (room-number (room_of (length (file_of net) + line_count net) lent) (sym (first-only _) ∙ rest)))

pub probe-writes : ProbeWrites
unfolding probe_of probing_of stuck_at
probe-writes table hold buffer e =
    let net = table_board table in
    let h = hold_at hold 0 in
    let (_, ordered, _) = unrefused table hold (length buffer) e in
    rw (e, one-hold hold (one-held _ _ hold ordered).0, input-by net h (is_seen net h))
