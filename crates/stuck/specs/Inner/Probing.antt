-- What probe returns and leaves of a board.
use Rattle.std.specs.Prelude.{List, ℕ, length}
use Rattle.fields.specs.Refusals.{first_no}
use Rattle.netlist.specs.Netlist.{Netlist, hold_at}
use Rattle.stuck.specs.Service.{board_answers, Answer, Probing, probing_or}

-- Once the table has its yes: the questions about its board, then the smallest betraying input.
abbrev pub probing_on : Netlist → List ℕ → List ℕ → Probing Answer
probing_on net hold buffer = probing_or (first_no (board_answers net hold (length buffer))) net (hold_at hold 0) buffer
