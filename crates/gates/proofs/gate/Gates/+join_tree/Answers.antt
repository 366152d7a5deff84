-- `Gates::join_tree` meets its contract: a single pair, or two trees and the join of both.
use native.Mathlib.Omega.{arith}
use Rattle.rules.specs.Make.{◌>>=◌}
use Rattle.rules.specs.Lamp.{join, no_pair}
use Rattle.netlist.proofs.Lists.{get_or-pairs, length_pairs}
use Rattle.gates.proofs.Trees.{single, joining, left-room, right-room, join-room}
use Rattle.gates.proofs.Pairs.{half-front, half-back}
use Rattle.gates.proofs.gate.Gates.+join_tree.Goals as goal

pub returns : goal.returns
returns t c =
    let bytes = c.args.pairs.now in
    let s = c.split_at.ensures in
    joining no_pair join _ _ _ (omega (arith, length_pairs bytes)) (half-front bytes s.front) (half-back bytes s.back)
    c.join_tree-one.ensures c.join_tree-other.ensures c.join.ensures

pub returns-then-count-le1 : goal.returns-then-count-le1
returns-then-count-le1 t c =
    let bytes = c.args.pairs.now in
    rw (c.pair_at.ensures, ← get_or-pairs bytes 0 no_pair (omega arith))
    (single no_pair join _ (omega (arith, length_pairs bytes)))

pub join_tree-one-requires : goal.join_tree-one-requires
join_tree-one-requires t c =
    let bytes = c.args.pairs.now in
    let s = c.split_at.ensures in (
      omega arith,
      (omega arith, left-room no_pair join _ _ _ (omega (arith, length_pairs bytes)) (half-front bytes s.front) (half-back bytes s.back) c.requires.1),
    )

pub join_tree-other-requires : goal.join_tree-other-requires
join_tree-other-requires t c =
    let bytes = c.args.pairs.now in
    let s = c.split_at.ensures in (
      omega arith,
      (
        omega arith,
        right-room no_pair join _ _ _ (omega (arith, length_pairs bytes)) (half-front bytes s.front) (half-back bytes s.back) c.requires.1
            c.join_tree-one.ensures,
      ),
    )

pub join-requires : goal.join-requires
unfolding join ◌>>=◌
join-requires t c =
    let bytes = c.args.pairs.now in
    let s = c.split_at.ensures in
    join-room no_pair join _ _ _ (omega (arith, length_pairs bytes)) (half-front bytes s.front) (half-back bytes s.back) c.requires.1
    c.join_tree-one.ensures c.join_tree-other.ensures
