-- `Board::seek` meets its contract: the holds' ranks rise, so those that are lower stand before the others.
use borrow.Author.Tests.{ltb-true, ltb-false, lt-ltb, tests}
use native.Mathlib.Nat.{eq-or-lt_of_le}
use native.Mathlib.Omega.{arith}
use Prim.Native.Nat.{ℕ, ◌/◌, ◌<◌}
use mathlib.Core.Path.{◌≡◌, ap}
use mathlib.Core.Bool.{Bool, true, false}
use mathlib.Core.List.{List, []}
use mathlib.Core.Logic.{⊎_elim}
use lib.Dec.{ltb}
use lib.ListN.{length, get_or}
use Rattle.std.proofs.Common.{rules}
use Rattle.std.proofs.lemmas.List.Sorted.{IsPartitionPoint-from_clause}
use Rattle.std.specs.List.Sorted.{IsPartitionedBy, IsPartitionPoint}
use Rattle.netlist.specs.Netlist.{hold_at}
use Rattle.netlist.proofs.Chunks.{hold-chunk}
use Rattle.drive.specs.Questions.{rank_of}
use Rattle.evaluation.proofs.Looking.{in_order}
use Rattle.evaluation.proofs.board.Board.seek.Goals.{After-partition_point-at}
use Rattle.evaluation.proofs.board.Board.seek.Goals as goal

module _ (c : After-partition_point-at) where
  abbrev holds : List ℕ
  holds = c.args.self.now.holds.now

  abbrev chunks : List (List ℕ)
  chunks = c.as_chunks.result.0.now

  -- Whether a hold is of a lower rank.
  abbrev lower : List ℕ → Bool
  lower bytes = ltb (rank_of (hold_at bytes 0)) c.args.rank

  its : (i : ℕ) (d : List ℕ) → i < length holds / 3 → rank_of (hold_at (get_or chunks i d) 0) ≡ rank_of (hold_at holds i)
  its i d l = ap rank_of (hold-chunk _ _ c.as_chunks.ensures.front l)

  parted : IsPartitionedBy lower chunks
  parted i j d le l e =
      let count = c.as_chunks.ensures.front_len in
      let high = ltb-true _ _ e in
      let hi = its i d (omega arith) in
      let hj = its j d (omega arith) in
      lt-ltb _ _
      (⊎_elim (λ (q : i ≡ j). rw q high)
      (λ m. let r = (in_order c.args.self.now).rising i j m (omega arith) in omega arith) (eq-or-lt_of_le le))

  point : IsPartitionPoint (λ y. lower y ≡ true) (λ y. lower y ≡ false) chunks c.partition_point-at.result
  point = IsPartitionPoint-from_clause lower chunks _ c.partition_point-at.ensures.partitioned parted (λ a r f k. search (rules, tests))

pub returns : goal.returns
returns c =
    let here = (goal.at.returns c).After-partition_point-at in
    let (place, is) = c.next_at.ensures in
    let (below, above) = point here in
    let count = c.as_chunks.ensures.front_len in
    record {
      is = is;
      ahead = rw place (record {
        behind = λ k m h. let e = its here k [] h in let l = ltb-true _ _ (below k [] (omega arith) m) in omega arith;
        from = λ k m h. let e = its here k [] h in let l = ltb-false _ _ (above k [] m (omega arith)) in omega arith;
      });
    }
