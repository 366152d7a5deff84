-- `write` meets its contract: the rows begin one after the other.
use native.Mathlib.Omega.{arith}
use Prim.Native.Nat.{ℕ, ◌*◌, ◌-◌, ◌%◌, ◌^◌, ◌<◌}
use mathlib.Core.Path.{◌≡◌, ap, ◌∙◌}
use lib.ListN.{length, get_or, take}
use lib.Seq.{length-take-le, get_or-take}
use Rattle.std.proofs.Common.{rules}
use Rattle.rows.proofs.Rows.{made, row-place, row-blocks, rows-begin}
use Rattle.rows.proofs.write.Goals.{After-from_fn-starts}
use Rattle.rows.proofs.write.Goals as goal

-- The places, so many as there are rows.
count : (c : After-from_fn-starts) → length (take c.args.m c.from_fn-starts.result) ≡ c.args.m
count c = length-take-le c.args.m _ (omega (arith, c.from_fn-starts.ensures.items.long, c.requires.3))

begins : (c : After-from_fn-starts) → (j : ℕ) → j < c.args.m →
    get_or (take c.args.m c.from_fn-starts.result) j 0 ≡ 64 * (j * 2 ^ (c.args.n - 6))
begins c j l =
    get_or-take c.args.m _ j 0 l
    ∙ made _ _ _ (λ i. 64 * (i * 2 ^ c.fixed_contacts-fixed.result % 2 ^ 64)) (λ i b q k. search rules) 8 0 c.from_fn-starts.ensures.items.each j (omega arith) (omega (arith, c.requires.3))
    ∙ ap (◌*◌ 64) (row-place c.args.n _ j c.requires.1 c.fixed_contacts-fixed.ensures (omega (arith, c.requires.3))).0

pub write-requires : goal.write-requires
write-requires c =
    let pre = c.requires in
    let start = (goal.at.write-requires c).After-from_fn-starts in (
      pre.0,
      pre.1,
      omega (arith, count start, pre.2),
      omega (arith, count start, pre.3),
      row-blocks c.args.n c.args.m c.args.truths.now _ (count start) (begins start) pre.4,
      pre.5,
    )

pub returns : goal.returns
returns c =
    let start = (goal.at.returns c).After-from_fn-starts in
    c.write.ensures ∙ rows-begin c.args.n c.args.m c.args.truths.now _ (count start) (begins start) _
