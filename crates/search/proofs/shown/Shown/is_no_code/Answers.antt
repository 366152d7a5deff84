-- `shown::Shown::is_no_code` meets its contract: the pair's two values are compared.
use mathlib.Core.Path.{sym, ap₂, ◌∙◌}
use lib.Dec.{eqb}
use Rattle.search.proofs.Agree.{agree_at}
use Rattle.search.proofs.shown.Shown.is_no_code.Goals as goal

pub returns : goal.returns
returns c =
    ap₂ eqb c.pair-on.ensures.on c.pair-on.ensures.off ∙ sym (agree_at c.args.self.pairs.now c.args.self.lines.now c.args.j c.requires)
