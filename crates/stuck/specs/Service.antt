-- The service probe: what it returns, and the bytes that it leaves.
use Rattle.std.specs.Prelude.{ℕ, zero, suc, ◌+◌, ◌&&◌, cond, Result, Ok, Err, List, [], ◌∷◌, ◌++◌, eqb, length, get_or}
use Rattle.fields.specs.Refusals.{first_no}
use Rattle.table.specs.Table.{table_refusal}
use Rattle.netlist.specs.declared.Hold.{Hold}
use Rattle.netlist.specs.declared.Pair.{Pair}
use Rattle.netlist.specs.Netlist.{Netlist, hold_at, gate_line, line_count, is_read, file_of}
use Rattle.drive.specs.declared.Holds.{Holds}
use Rattle.drive.specs.declared.Holds.TheVariants.{Ordered, Disordered}
use Rattle.drive.specs.Questions.{are_ordered, holds_number}
use Rattle.files.specs.declared.refusal.Refusal.{Refusal}
use Rattle.files.specs.Refusals.{number_of}
use Rattle.files.specs.Room.{over, room_of, room_number}
use Rattle.rules.specs.Board.{table_board}
use Rattle.stuck.specs.declared.fanout.Fanout.{Fanout}
use Rattle.stuck.specs.declared.fanout.Fanout.TheVariants.{Read, Unread}
use Rattle.stuck.specs.declared.answer.Probed.{Probed}
use Rattle.stuck.specs.declared.answer.Way.{Way}
use Rattle.stuck.specs.declared.answer.Way.TheVariants.{BothLow, BothHigh, Hidden}
use Rattle.faults.specs.Betrayal.{stuck_at, is_seen, smallest_input, lowest_no_code}

-- 14. Are the holds whole (just one for probe), naming a line from 2 up or a pin of a gate that is in the netlist?
abbrev pub one_hold : ℕ → ℕ → List ℕ → Holds
one_hold first lines hold = cond (eqb (length hold) 3 && are_ordered first lines hold) Ordered Disordered

-- 15. Does some gate or output read the line, which is the gate's own if a pin is held? No: 15.
abbrev pub fanout_of : Netlist → ℕ → Fanout
fanout_of net line = cond (is_read net line) Read Unread

abbrev pub fanout_number : Fanout → ℕ
fanout_number Read = 0
fanout_number Unread = 15

-- The numbers of the answers about a board: 14, then 15, then 9 for the netlist file followed by one byte a line.
abbrev pub board_answers : Netlist → List ℕ → ℕ → List ℕ
board_answers net hold lent =
    holds_number (one_hold (gate_line net.contacts) (line_count net) hold)
    ∷ fanout_number (fanout_of net (hold_at hold 0).line)
    ∷ room_number (room_of (length (file_of net) + line_count net) lent)
    ∷ []

-- The table's questions, then those about its board.
unfoldable pub probe_refusal : List ℕ → List ℕ → ℕ → ℕ
probe_refusal table hold lent = first_no (table_refusal table ∷ board_answers (table_board table) hold lent)

-- The way a pair without a code shows: both low or both high.
abbrev pub way_of : ℕ → Way
way_of zero = BothLow
way_of (suc k) = BothHigh

-- What probe answers: a refusal's number, or 0 and what it finds.
pub record Answer : Type 0 where
  pub refusal : ℕ
  pub input : ℕ
  pub output : ℕ
  pub way : Way

-- What probe answers where some code input betrays the hold: the lowest output whose pair shows no code among the line values at an
-- input, and the way it shows.
abbrev pub found_at : List Pair → ℕ → List ℕ → Answer
found_at pairs input values =
    let output = lowest_no_code pairs values in
    record {
      refusal = 0;
      input = input;
      output = output;
      way = way_of (get_or values (get_or pairs output (record { on = 0; off = 0 })).on 0);
    }

-- Hidden: no code input betrays the hold.
abbrev pub hidden_probe : Answer
hidden_probe = record { refusal = 0; input = 0; output = 0; way = Hidden }

-- A refusal, with every other result zero.
abbrev pub refused_probe : ℕ → Answer
refused_probe number = record { refusal = number; input = 0; output = 0; way = BothLow }

-- The answer of what is found, and that of a result.
abbrev pub found : Probed → Answer
found p = record { refusal = 0; input = p.input; output = p.output; way = p.way }

abbrev pub answer_of : Result Probed Refusal → Answer
answer_of (Ok p) = found p
answer_of (Err r) = refused_probe (number_of r)

-- What probe answers, and what it leaves in the lent buffer.
pub record Probing (A : Type 0) : Type 0 where
  pub answer : A
  pub buffer : List ℕ

-- Of a netlist and its file: the smallest betraying input, or hidden; the buffer then holds the file and the line values at that
-- input, or at input 0, with the line or pin held.
abbrev pub probing_with : List ℕ → Netlist → Hold → List ℕ → Probing Answer
probing_with file net hold buffer =
    let seen = is_seen net hold in
    let input = cond seen (smallest_input net hold) 0 in
    let values = stuck_at net hold input in
    record {
      answer = cond seen (found_at net.pairs input values) hidden_probe;
      buffer = over (file ++ values) buffer;
    }

-- A refusal leaves the buffer as it came.
abbrev pub probing_or : ℕ → Netlist → Hold → List ℕ → Probing Answer
probing_or zero net hold buffer = probing_with (file_of net) net hold buffer
probing_or (suc k) net hold buffer = record { answer = refused_probe (suc k); buffer = buffer }

unfoldable pub probing_of : List ℕ → List ℕ → List ℕ → Probing Answer
probing_of table hold buffer = probing_or (probe_refusal table hold (length buffer)) (table_board table) (hold_at hold 0) buffer
