-- `inputs::search_in` meets its contract. The loop's invariant: no input below base betrays.
use Prim.Native.Nat.{ℕ, ◌%◌, ◌^◌, ◌≤◌, ◌<◌}
use mathlib.Core.Path.{◌≡◌}
use mathlib.Core.Bool.{false}
use Rattle.faults.specs.Betrayal.{betrays}
use Rattle.netlist.specs.Netlist.{net_of}
use Rattle.search.proofs.inputs.search_in.Given as goal

abbrev pub invariant-loop-base : goal.invariant-loop-base
invariant-loop-base l = record {
  aligned : l.base % 64 ≡ 0;
  last : l.base-end ≡ 2 ^ l.board.contacts;
  few : 2 ^ l.board.contacts ≤ 4096;
  none : (a : ℕ) → a < l.base → betrays (net_of l.board.contacts l.board.gates.now l.board.pairs.now) l.fn.hold a ≡ false;
}
