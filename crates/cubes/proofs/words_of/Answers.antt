-- `words_of` meets its contract.
use native.Mathlib.Omega.{arith}
use Prim.Native.Nat.{ℕ, ◌*◌, ◌+◌, ◌^◌, ◌≤◌, ◌<◌}
use mathlib.Core.Path.{◌≡◌, ap, ◌∙◌}
use lib.Pow.{pow_mono}
use Rattle.std.proofs.lemmas.List.{length-take-le, get_or-take}
use Rattle.cubes.specs.Inner.Cubes.{mask_digit, value_digit}
use Rattle.cubes.proofs.Cubes.{high-none, high-more}
use Rattle.cubes.proofs.words_of.Goals.{In-loop-byte}
use Rattle.cubes.proofs.words_of.Goals as goal

few : (i fixed : ℕ) → i ≤ fixed → fixed ≤ 6 → 2 ^ i ≤ 64
few i fixed h g = pow_mono {j = 6} (omega arith)

-- The byte is one of those of the fixed contacts.
below : (c : In-loop-byte) → c.loop-byte.byte-index < c.args.fixed
below c = omega (arith, c.loop-byte-test.true, length-take-le c.args.fixed c.args.rule.now c.requires.1)

pub loop-byte-init : goal.loop-byte-init
loop-byte-init c = high-none _ _

pub with_contact-words-requires : goal.with_contact-words-requires
with_contact-words-requires c =
    let inv = c.loop-byte.invariant in
    let most = few c.loop-byte.byte-index _ (omega (arith, below (goal.at.with_contact-words-requires c).In-loop-byte)) c.requires.0 in
    (omega (arith, inv.small.0, most), omega (arith, inv.small.1, most))

pub loop-byte-preserved : goal.loop-byte-preserved
loop-byte-preserved c =
    let loop = c.loop-byte in
    let inside = below (goal.at.loop-byte-preserved c).In-loop-byte in
    let same = get_or-take c.args.fixed c.args.rule.now loop.byte-index 0 inside in
    high-more _ loop.byte-index _ inside loop.invariant
    (c.with_contact-words.ensures.0 ∙ ap (λ (b : ℕ). 2 * loop.words.mask + mask_digit b) same)
    (c.with_contact-words.ensures.1 ∙ ap (λ (b : ℕ). 2 * loop.words.value + value_digit b) same)

pub returns : goal.returns
returns c =
    let end : c.loop-byte.byte-index ≡ c.args.fixed = omega (arith, length-take-le c.args.fixed c.args.rule.now c.requires.1) in
    rw end at c.loop-byte.invariant
