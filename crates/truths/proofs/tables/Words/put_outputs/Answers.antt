-- `Words::put_outputs` meets its contract.
use native.Mathlib.Omega.{arith}
use native.Mathlib.Nat.{suc-mul}
use Prim.Native.Nat.{ℕ, suc, ◌+◌, ◌*◌, ◌-◌, ◌%◌, ◌^◌, ◌≤◌}
use mathlib.Core.Path.{◌≡◌, sym, ap, ◌∙◌}
use lib.ListN.{length}
use Rattle.std.specs.List.{between}
use Rattle.std.proofs.lemmas.List.Edits.{length-between}
use Rattle.bits.proofs.Bits.{bits-of}
use Rattle.rows.proofs.Rows.{row_room}
use Rattle.drawing.specs.Drawing.{parted}
use Rattle.truths.proofs.Outputs.{number-for, one-put}
use Rattle.truths.proofs.Reaching.{from_start}
use Rattle.truths.proofs.tables.Words.put_outputs.Goals.{In-loop-j}
use Rattle.truths.proofs.tables.Words.put_outputs.Goals as goal

abbrev words : In-loop-j → ℕ
words c = 1 * 2 ^ c.fixed_contacts-fixed.result % 2 ^ 64

-- A row's words, where it ends, and that it has room.
own : (c : In-loop-j) → words c ≡ 2 ^ (c.args.self.now.drawing.parts.contacts - 6)
own c =
    let few = c.args.self.now.drawing.limited.contacts.1 in
    bits-of c.fixed_contacts-fixed.result (omega (arith, c.fixed_contacts-fixed.ensures, few))
    ∙ ap (λ (k : ℕ). 2 ^ k) c.fixed_contacts-fixed.ensures

next : (c : In-loop-j) → (c.loop-j.j + 1) * words c ≡ c.loop-j.j * words c + words c
next c = ap (λ (k : ℕ). k * words c) (let e : c.loop-j.j + 1 ≡ suc c.loop-j.j = omega arith in e) ∙ suc-mul c.loop-j.j (words c)

room : (c : In-loop-j) → c.loop-j.j * words c + words c ≤ length c.loop-j.truths
room c = rw (own c) (row_room c.args.self.now.drawing.parts.contacts c.loop-j.j _ _ c.loop-j-test.true (omega (arith, c.loop-j.auto.truths, c.requires.0)))

long : (c : In-loop-j) → length (between (c.loop-j.j * words c) ((c.loop-j.j + 1) * words c) c.loop-j.truths) ≡ words c
long c =
    length-between c.loop-j.truths (c.loop-j.j * words c) ((c.loop-j.j + 1) * words c) (omega (arith, next c, room c))
    ∙ omega (arith, next c)

pub put_block-requires : goal.put_block-requires
put_block-requires c =
    let place = (goal.at.put_block-requires c).In-loop-j in
    let s = c.args.self.now in (
      omega (arith, c.fixed_contacts-fixed.ensures),
      from_start (number-for (parted s.drawing.parts) s.drawing.limited c.loop-j.j c.loop-j-test.true) (omega (arith, c.fixed_contacts-fixed.ensures)),
      long place ∙ own place ∙ ap (λ (k : ℕ). 2 ^ k) (sym c.fixed_contacts-fixed.ensures),
    )

pub loop-j-preserved : goal.loop-j-preserved
loop-j-preserved c =
    let place = (goal.at.loop-j-preserved c).In-loop-j in
    let s = c.args.self.now in
    one-put (parted s.drawing.parts) c.loop-j.j (c.loop-j.j * words place) _ c.fixed_contacts-fixed.result c.loop-j.truths c.put_block.new.block
    (ap (λ (k : ℕ). c.loop-j.j * k) (own place)) c.fixed_contacts-fixed.ensures (omega (arith, room place))
    (c.put_block.auto.block ∙ long place ∙ own place) c.put_block.ensures c.loop-j.invariant
