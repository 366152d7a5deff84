-- `Truths::number` meets its contract.
use native.Mathlib.Omega.{arith}
use Prim.Native.Nat.{ℕ, ◌<◌}
use mathlib.Core.Path.{◌≡◌, refl, sym, ap, ◌∙◌}
use mathlib.Core.List.{List}
use lib.ListN.{length}
use Rattle.std.proofs.Common.{None}
use Rattle.std.specs.List.{position}
use Rattle.functions.specs.Functions.{same, place}
use Rattle.canonical.specs.Inner.Blocks.{block_at, level_at, mention_at, blocks_at}
use Rattle.canonical.proofs.Searching.{found-at, found_none}
use Rattle.canonical.proofs.Numbering.{number, numbered-none, numbered_more, none-entered, found_number, entered-old, entered-new, entered-nine, few-not}
use Rattle.canonical.proofs.blocks.Truths.number.Goals.{After-find, in-Some, in-None+else-number-eq8}
use Rattle.canonical.proofs.blocks.Truths.number.Goals as goal

-- What is searched is the level's list.
sought : (c : After-find) → let block = block_at c.args.self.words.now c.args.self.left in
    c.find.result ≡ position (λ (s : ℕ). same (block s) (mention_at c.args.self.words.now c.args.self.left c.args.mentions.now c.loop-k.k)) c.loop-k.level
sought c =
    let f = mention_at c.args.self.words.now c.args.self.left c.args.mentions.now c.loop-k.k in
    c.find.ensures ∙ ap (λ (l : List ℕ). position (λ s. same (block_at c.args.self.words.now c.args.self.left s) f) l) c.as_slice.ensures.are

-- A mention that is not found comes after the functions listed.
new : (c : After-find) → c.find.result ≡ None → let s = c.args.self in
    length c.loop-k.level ≡ place (blocks_at s.words.now s.left c.loop-k.level) (mention_at s.words.now s.left c.args.mentions.now c.loop-k.k)
new c e =
    let s = c.args.self in
    found_none s.words.now s.left (mention_at s.words.now s.left c.args.mentions.now c.loop-k.k) c.loop-k.level
    (sym (sought c) ∙ e)

pub loop-k-init : goal.loop-k-init
loop-k-init c =
    let s = c.args.self in
    record {
      entered = rw c.requires.3 (none-entered s.words.now s.left c.args.mentions.now);
      numbers-are = numbered-none (number s.words.now s.left c.args.mentions.now);
    }

pub returns-then-number-eq8-clause-value : goal.returns-then-number-eq8-clause-value
returns-then-number-eq8-clause-value c =
    let s = c.args.self in
    let ms = c.args.mentions.now in
    few-not s.left (level_at s.words.now s.left ms) c.requires.0
    (entered-nine s.words.now s.left ms c.loop-k.invariant.entered _ (new (goal.at.returns-then-number-eq8-clause-value c).After-find c.in-None.is)
    refl (omega (arith, c.if-number-eq8.true, ap length c.as_slice-number.ensures.are)) c.loop-k-test.true)

pub loop-k-preserved : goal.loop-k-preserved
loop-k-preserved c =
    let s = c.args.self in
    let ms = c.args.mentions.now in
    let loop = c.loop-k in
    let e = loop.invariant.entered in
    let ws = s.words.now in
    let found = c.match-find.number in
    let inside = c.loop-k-test.true in
    let room : loop.k < length loop.numbers = omega (arith, c.requires.2) in
    let mores = numbered_more (number ws s.left ms) loop.numbers loop.k found room loop.invariant.numbers-are in
    elim c.match-find.branch [
      | in-Some w ↦
          let f = found-at ws s.left (mention_at ws s.left ms loop.k) loop.level w.in-Some.number
          (sym (sought (goal.at.loop-k-preserved c).After-find) ∙ w.in-Some.is) in
          record {
            entered = rw w.level-is (entered-old ws s.left ms e _ f.1 f.0);
            numbers-are = mores (w.number-is ∙ found_number ws s.left ms e _ f.1 c.requires.0 inside);
          }
      | in-None+else-number-eq8 w ↦
          let at = new (goal.at.loop-k-preserved c).After-find w.in-None.is in
          let width = ap length w.as_slice-number.ensures.are in
          let room : length loop.level < 8 = omega (arith, w.if-number-eq8.false, w.as_slice-number.ensures.few, width) in
          record {
            entered = rw (w.level-is, w.push.ensures) (entered-new ws s.left ms e _ at refl room (c.requires.1 loop.k 0 inside));
            numbers-are = mores (w.number-is ∙ width ∙ found_number ws s.left ms e _ at c.requires.0 inside);
          }
    ]
