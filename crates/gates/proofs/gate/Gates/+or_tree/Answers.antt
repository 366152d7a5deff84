-- `Gates::or_tree` meets its contract: a single line, or two trees and the OR of both.
use native.Mathlib.Omega.{arith}
use Rattle.rules.specs.Make.{gate}
use Rattle.gates.proofs.Trees.{single, pair-is, joining, left-room, right-room, join-room}
use Rattle.gates.proofs.gate.Gates.+or_tree.Goals as goal

pub returns : goal.returns
returns t c =
    let s = c.split_at.ensures in
    joining 0 (gate 1) _ _ _ (omega arith) s.front s.back c.or_tree-one.ensures c.or_tree-other.ensures c.gate-2.ensures

pub returns-then-lines-eq1 : goal.returns-then-lines-eq1
returns-then-lines-eq1 t c = single 0 (gate 1) c.args.lines.now (omega arith)

pub or_tree-one-requires : goal.or_tree-one-requires
or_tree-one-requires t c =
    let s = c.split_at.ensures in (
      omega arith,
      (omega arith, left-room 0 (gate 1) _ _ _ (omega arith) s.front s.back c.requires.1),
    )

pub or_tree-other-requires : goal.or_tree-other-requires
or_tree-other-requires t c =
    let s = c.split_at.ensures in (
      omega arith,
      (omega arith, right-room 0 (gate 1) _ _ _ (omega arith) s.front s.back c.requires.1 c.or_tree-one.ensures),
    )

pub gate-requires-2 : goal.gate-requires-2
gate-requires-2 t c =
    let s = c.split_at.ensures in
    join-room 0 (gate 1) _ _ _ (omega arith) s.front s.back c.requires.1 c.or_tree-one.ensures c.or_tree-other.ensures

pub gate-requires : goal.gate-requires
gate-requires t c = rw (pair-is 0 (gate 1) c.args.lines.now c.if-lines-eq2.true) at c.requires.1

pub returns-then-lines-eq2 : goal.returns-then-lines-eq2
returns-then-lines-eq2 t c = rw (pair-is 0 (gate 1) c.args.lines.now c.if-lines-eq2.true) c.gate.ensures
