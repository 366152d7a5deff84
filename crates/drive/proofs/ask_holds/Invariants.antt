-- `ask_holds` meets its contract. The loop's invariant: each hold passed is in its place, and the last of them has this rank.
use mathlib.Core.Path.{◌≡◌}
use mathlib.Core.Bool.{true}
use Rattle.fields.specs.Bounded.{all}
use Rattle.netlist.specs.Netlist.{hold_at}
use Rattle.drive.specs.Questions.{is_hold, rank_before}
use Rattle.drive.proofs.ask_holds.Given as goal

abbrev pub invariant-loop-bytes : goal.invariant-loop-bytes
invariant-loop-bytes l = record {
  rank : l.last ≡ rank_before l.fn.holds l.bytes-index;
  passed : all l.bytes-index (λ k. is_hold l.first l.lines (rank_before l.fn.holds k) (hold_at l.fn.holds k)) ≡ true;
}
