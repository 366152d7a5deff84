-- `Truths::number_constants` meets its contract.
use native.Mathlib.Omega.{arith}
use mathlib.Core.Path.{◌∙◌}
use Rattle.canonical.specs.Inner.Blocks.{level_at}
use Rattle.canonical.proofs.Numbering.{number, numbered-none, numbered_more, number-constant}
use Rattle.canonical.proofs.blocks.Truths.number_constants.Goals as goal

pub loop-k-init : goal.loop-k-init
loop-k-init c = numbered-none (number c.args.self.words.now 0 c.args.mentions.now)

pub loop-k-preserved : goal.loop-k-preserved
loop-k-preserved c =
    let loop = c.loop-k in
    let ws = c.args.self.words.now in
    let ms = c.args.mentions.now in
    numbered_more (number ws 0 ms) loop.numbers loop.k _ (omega (arith, c.requires.1)) loop.invariant
    (c.bit.ensures ∙ number-constant (level_at ws 0 ms) ws _)
