-- `word::rail_batch` meets its contract: contacts below 6 by their patterns, the others have one value at all 64 inputs.
use native.Mathlib.Omega.{arith}
use mathlib.Core.Path.{◌≡◌, sym, ◌∙◌}
use Rattle.bits.specs.Inner.Bits.{bit_of}
use Rattle.bits.proofs.Bits.{bit-zero, bit-ones}
use Rattle.bits.proofs.Rails.{rail-low, rail-high}
use Rattle.bits.proofs.word.rail_batch.Goals as goal

pub returns-then-contact-lt6 : goal.returns-then-contact-lt6
returns-then-contact-lt6 c = λ k l. rail-low c.args.base k c.requires.1 l c.args.contact c.if-contact-lt6.true

pub returns-then-base-contact-eq0 : goal.returns-then-base-contact-eq0
returns-then-base-contact-eq0 c =
    λ k l.
    bit-zero k ∙ sym c.if-base-contact-eq0.true
    ∙ rail-high c.args.base k c.requires.1 l c.args.contact c.if-contact-lt6.false

pub returns-else-base-contact-eq0 : goal.returns-else-base-contact-eq0
returns-else-base-contact-eq0 c =
    let odd : 1 ≡ bit_of c.args.contact c.args.base = omega (arith, c.if-base-contact-eq0.false) in
    λ k l. bit-ones k l ∙ odd ∙ rail-high c.args.base k c.requires.1 l c.args.contact c.if-contact-lt6.false
