-- `layout::put_level` meets its contract: the mentions are the halves of the level's blocks.
use native.Mathlib.Omega.{arith}
use Prim.Native.Nat.{ℕ, suc, ◌+◌, ◌*◌, ◌/◌, ◌%◌, ◌^◌, ◌<◌}
use mathlib.Core.Path.{◌≡◌, ap, sym, ◌∙◌}
use lib.ListN.{length, get_or, take}
use lib.Seq.{sets, length-take-le, get_or-take}
use mathlib.Core.List.{List}
use Rattle.std.proofs.Common.{is_some, rules}
use Rattle.std.proofs.lemmas.List.{take_at}
use Rattle.fields.specs.Fields.{field_bytes}
use Rattle.canonical.specs.Inner.Blocks.{is_few, Blocks}
use Rattle.canonical.proofs.Halves.{halves-blocks, next_level}
use Rattle.canonical.proofs.Prefixes.{level-put}
use Rattle.canonical.proofs.layout.put_level.Goals.{After-halve}
use Rattle.canonical.proofs.layout.put_level.Goals as goal

-- The level's blocks, and the halves that are mentioned.
blocks : (c : After-halve) → Blocks c.args.truths.words.now (suc c.args.truths.left) c.as_slice-starts.result.now
blocks c = rw c.as_slice-starts.ensures.are c.requires.1

long : (c : After-halve) → let mentions = take (2 * length c.as_slice-starts.result.now) c.halve.new.halves in
    length mentions ≡ 2 * length c.as_slice-starts.result.now
long c =
    let size : length c.halve.new.halves ≡ 16 = search rules in
    length-take-le (2 * length c.as_slice-starts.result.now) c.halve.new.halves (omega (arith, size, c.as_slice-starts.ensures.few, ap length c.as_slice-starts.ensures.are))

split : (c : After-halve) → let mentions = take (2 * length c.as_slice-starts.result.now) c.halve.new.halves in
    (k : ℕ) → k < 2 * length c.as_slice-starts.result.now → get_or mentions k 0 ≡ get_or c.as_slice-starts.result.now (k / 2) 0 + k % 2 * 2 ^ c.args.truths.left
split c k l = get_or-take (2 * length c.as_slice-starts.result.now) c.halve.new.halves k 0 l ∙ c.halve.ensures k l

pub enter-requires : goal.enter-requires
enter-requires c =
    let t = c.args.truths in
    let start = (goal.at.enter-requires c).After-halve in (
      halves-blocks t.words.now t.left c.as_slice-starts.result.now _ (blocks start) (long start) (split start),
      length-take-le _ _ (omega (arith, c.as_slice-starts.ensures.few, ap length c.as_slice-starts.ensures.are)) ∙ sym (long start),
    )

pub returns-in_err-enter-clause-value : goal.returns-in_err-enter-clause-value
returns-in_err-enter-clause-value c =
    let t = c.args.truths in
    let start = (goal.at.returns-in_err-enter-clause-value c).After-halve in
    ap is_some c.from_residual.ensures ∙ c.in_err-enter.ensures.value
    ∙ rw (← c.as_slice-starts.ensures.are) (ap (is_few t.left) (next_level t.words.now t.left c.as_slice-starts.result.now _ (blocks start) (long start) (split start)))

pub returns-clause-value : goal.returns-clause-value
returns-clause-value c =
    let t = c.args.truths in
    let start = (goal.at.returns-clause-value c).After-halve in
    c.in_ok-enter.ensures.value
    ∙ rw (← c.as_slice-starts.ensures.are) (ap (is_few t.left) (next_level t.words.now t.left c.as_slice-starts.result.now _ (blocks start) (long start) (split start)))

pub returns-clause-put : goal.returns-clause-put
returns-clause-put c =
    let t = c.args.truths in
    let start = (goal.at.returns-clause-put c).After-halve in
    rw (← c.as_slice-starts.ensures.are) (level-put t.words.now t.left c.as_slice-starts.result.now _ (blocks start) (long start) (split start) c.args.at c.in_ok-enter.ensures.numbered
    (c.put_field.ensures ∙ ap (λ (v : List ℕ). sets c.args.file.now c.args.at (field_bytes (record { tag = 3; value = v }))) (take_at c.enter.new.numbers _ _ (c.enter.auto.numbers ∙ length-take-le _ _ (omega (arith, c.as_slice-starts.ensures.few, ap length c.as_slice-starts.ensures.are))))))
