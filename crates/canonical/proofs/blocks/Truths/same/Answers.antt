-- `Truths::same` meets its contract: the bits of two blocks agree exactly where their parts of words or their words are the same.
use native.Mathlib.Omega.{arith}
use Prim.Native.Nat.{◌-◌}
use mathlib.Core.Path.{ap₂, ◌∙◌}
use lib.Dec.{eqb}
use Rattle.std.proofs.lemmas.Slice.Eq.{slice_eq-Decides}
use Rattle.std.proofs.lemmas.Bool.Decides.{Decides-eqb}
use Rattle.bits.proofs.Bits.{bits-of}
use Rattle.canonical.proofs.Agreement.{same-by-parts, words-within, same-by-so-many}
use Rattle.canonical.proofs.blocks.Truths.same.Goals as goal

pub returns-then-self-lt6 : goal.returns-then-self-lt6
returns-then-self-lt6 c =
    let a = c.args in
    ap₂ eqb c.part.ensures c.part-then-self-lt6.ensures
    ∙ same-by-parts a.self.words.now a.self.left c.if-self-lt6.true a.a a.b c.requires.0 c.requires.1

pub slice_bounds-eq-end : goal.slice_bounds-eq-end
slice_bounds-eq-end c =
    let s = c.args.self in
    words-within s.words.now s.left _ c.if-self-lt6.false (bits-of (s.left - 6) (omega arith)) c.args.a c.requires.0

pub slice_bounds-eq-end-2 : goal.slice_bounds-eq-end-2
slice_bounds-eq-end-2 c =
    let s = c.args.self in
    words-within s.words.now s.left _ c.if-self-lt6.false (bits-of (s.left - 6) (omega arith)) c.args.b c.requires.1

pub returns : goal.returns
returns c =
    let s = c.args.self in
    same-by-so-many s.words.now s.left _ c.if-self-lt6.false (bits-of (s.left - 6) (omega arith)) s.fit c.args.a c.args.b c.requires.0 c.requires.1
    (slice_eq-Decides Decides-eqb _ _ _ c.eq.ensures)
