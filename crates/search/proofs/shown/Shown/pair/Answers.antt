-- `shown::Shown::pair` meets its contract: the lines that are looked up are the output's.
use Prim.Native.Nat.{ℕ}
use mathlib.Core.Path.{ap, ◌∙◌}
use lib.ListN.{length, get_or}
use Rattle.netlist.specs.declared.Pair.{Pair}
use Rattle.netlist.proofs.Sound.{PairIn}
use Rattle.wiring.proofs.Tests.{pairs-at}
use Rattle.search.proofs.shown.Shown.pair.Goals.{After-pair_at-pair}
use Rattle.search.proofs.shown.Shown.pair.Goals as goal

low : (c : After-pair_at-pair) → PairIn (length c.args.self.lines.now) c.pair_at-pair.result
low c =
    let a = c.args.self in
    rw c.pair_at-pair.ensures (pairs-at (length a.lines.now) a.pairs.now a.paired c.args.j c.requires)

pub bounds-self-from : goal.bounds-self-from
bounds-self-from c = rw c.from.ensures (low (goal.at.bounds-self-from c).After-pair_at-pair).on

pub bounds-self-from-2 : goal.bounds-self-from-2
bounds-self-from-2 c = rw c.from-2.ensures (low (goal.at.bounds-self-from-2 c).After-pair_at-pair).off

pub returns-clause-on : goal.returns-clause-on
returns-clause-on c =
    ap (λ (i : ℕ). get_or c.args.self.lines.now i 0) (c.from.ensures ∙ ap (λ (p : Pair). p.on) c.pair_at-pair.ensures)

pub returns-clause-off : goal.returns-clause-off
returns-clause-off c =
    ap (λ (i : ℕ). get_or c.args.self.lines.now i 0) (c.from-2.ensures ∙ ap (λ (p : Pair). p.off) c.pair_at-pair.ensures)
