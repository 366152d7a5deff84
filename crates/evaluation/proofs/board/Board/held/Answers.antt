-- `Board::held` meets its contract: the next hold is of the rank, or none is.
use native.Mathlib.Omega.{arith}
use Prim.Native.Nat.{◌/◌, ◌<◌}
use mathlib.Core.Path.{◌≡◌, refl, sym, ◌∙◌}
use lib.ListN.{length}
use Rattle.evaluation.proofs.Looking.{in_order, inside, missed, met}
use Rattle.evaluation.proofs.board.Board.held.Goals.{Start}
use Rattle.evaluation.proofs.board.Board.held.Goals as goal

-- Where the next hold has the rank, a hold stands at its place.
within : (start : Start) → start.args.next.now.rank ≡ start.args.rank →
    start.args.next.now.at < length start.args.self.now.holds.now / 3
within start e =
    inside _ (in_order start.args.self.now) start.args.next.now.at (omega (arith, start.requires.0.is, start.requires.1))

pub returns-then-next-rank : goal.returns-then-next-rank
returns-then-next-rank c =
    let here = c.requires.0 in
    missed _ (in_order c.args.self.now) _ _ c.requires.1 here.ahead _ refl here.is (λ e. c.if-next-rank.true (here.is ∙ e))

pub returns : goal.returns
returns c =
    let here = c.requires.0 in
    let (place, is) = c.next_at.ensures in
    met _ (in_order c.args.self.now) _ _ c.requires.1 here.ahead _ _ (sym here.is ∙ c.if-next-rank.false) refl place is
