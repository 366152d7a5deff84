-- `find_twins` meets its contract. The loops' invariants: the levels passed have no alike nodes, nor have the nodes passed, and
-- the pairs are counted.
use native.Mathlib.Omega.{arith}
use native.Mathlib.Nat.{le_antisymm}
use mathlib.Core.Path.{◌∙◌}
use Rattle.twins.proofs.Pairs.{passed_none, passed-node, passed-level, passed-found, passed-all}
use Rattle.twins.proofs.find_twins.Goals as goal

pub loop-level-init : goal.loop-level-init
loop-level-init c = (omega arith, passed_none c.args.d.now)

pub returns-in-Some : goal.returns-in-Some
returns-in-Some c =
    let inv = c.loop-later.invariant in
    let found = c.in-Some.ensures in
    passed-found c.args.d.now inv.2 c.loop-level-test.true (omega (arith, inv.0, c.loop-later-test.true)) found.0 found.1

pub loop-later-preserved : goal.loop-later-preserved
loop-later-preserved c =
    let inv = c.loop-later.invariant in
    (inv.0, (inv.1.0, inv.1.1, omega (arith, inv.1)), passed-node c.args.d.now inv.2 c.in_default.ensures)

pub loop-level-preserved : goal.loop-level-preserved
loop-level-preserved c =
    let loop = c.loop-later in
    let inv = loop.invariant in
    let end = le_antisymm loop.auto.later-end c.loop-later-test.false ∙ inv.0 in
    (omega (arith, inv.1, loop.auto.later-end), passed-level c.args.d.now inv.2 end)

pub returns : goal.returns
returns c =
    let loop = c.loop-level in
    passed-all c.args.d.now (rw (le_antisymm loop.auto.level-end c.loop-level-test.false) at loop.invariant.1)
