-- `fanout::ask_fanout` meets its contract: a line is a gate's or a rail, and a rail is read if its level forks.
use native.Mathlib.Omega.{arith}
use Prim.Native.Nat.{◌≤◌}
use mathlib.Core.Path.{sym, ◌∙◌}
use Rattle.diagram.specs.declared.Diagram.{Diagram}
use Rattle.diagram.proofs.Ignored.{forks-branch, no-fork}
use Rattle.stuck.specs.Inner.Findings.{AcceptedDiagram}
use Rattle.stuck.proofs.Boards.{sized}
use Rattle.stuck.proofs.Fanouts.{gate-fanout, fork-fanout, straight-fanout}
use Rattle.stuck.proofs.fanout.ask_fanout.Goals as goal

few : {d : Diagram} → AcceptedDiagram d → d.contacts ≤ 12
few drawn = (sized drawn).contacts.1

pub overflow_mul-d : goal.overflow_mul-d
overflow_mul-d c = omega (arith, few c.requires.0)

pub overflow_add-d : goal.overflow_add-d
overflow_add-d c = omega (arith, few c.requires.0)

pub returns-then-d-line : goal.returns-then-d-line
returns-then-d-line c = let (drawn, _, below) = c.requires in gate-fanout drawn _ c.if-d-line.true below

pub forks-requires : goal.forks-requires
forks-requires c =
    let s = sized c.requires.0 in
    (omega arith, s.contacts.1, (s.widths _ (omega arith)).1)

pub returns-then-forks : goal.returns-then-forks
returns-then-forks c =
    let (drawn, low, _) = c.requires in
    fork-fanout drawn _ low c.if-d-line.false
    (forks-branch c.args.d.now _ (sym c.forks.ensures ∙ c.if-forks.true))

pub returns : goal.returns
returns c =
    let (drawn, low, _) = c.requires in
    straight-fanout drawn _ low c.if-d-line.false
    (no-fork c.args.d.now _ (sym c.forks.ensures ∙ c.if-forks.false))
