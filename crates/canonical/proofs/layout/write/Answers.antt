-- `layout::write` meets its contract: each refusal and the end are the case of `tabling_of` that the answers lead to.
use native.Mathlib.Omega.{arith}
use Prim.Native.Nat.{◌≤◌}
use mathlib.Core.Path.{◌≡◌, sym, ap, ◌∙◌}
use lib.ListN.{length, replicate}
use lib.Seq.{sets, length-take-le}
use Rattle.files.proofs.Buffers.{enough}
use Rattle.std.proofs.Common.{Some}
use Rattle.canonical.specs.Inner.Blocks.{mention_at}
use Rattle.canonical.specs.Service.{laid_of}
use Rattle.canonical.proofs.Outcomes.{laid-bytes, tabled-wide, tabled-short, tabled-whole}
use Rattle.canonical.proofs.layout.write.Goals.{In-Enough, In-Some}
use Rattle.canonical.proofs.layout.write.Goals as goal

laid : (c : In-Some) → let a = c.args in
    laid_of a.n (length a.outputs.now) (mention_at a.words.now a.n a.outputs.now) ≡ Some c.in-Some.length
laid c = sym c.lay.ensures.value ∙ c.in-Some.is

fits : (c : In-Some) → c.in-Some.length ≤ 243
fits c = c.in-Some.ensures.written.0

long : (c : In-Some) → c.in-Some.length ≤ length c.lay.new.file
long c = omega (arith, fits c, c.lay.auto)

room : (c : In-Enough) → c.in-Some.length ≤ length c.args.table.now
room c = enough _ _ (sym c.ask_room.ensures ∙ c.in-Enough.is)

pub returns-in_default : goal.returns-in_default
returns-in_default c =
    let a = c.args in
    tabled-wide a.n (length a.outputs.now) (mention_at a.words.now a.n a.outputs.now) a.table.now
    (sym c.lay.ensures.value ∙ c.in_default.is)

pub returns-in_default-ask_room : goal.returns-in_default-ask_room
returns-in_default-ask_room c =
    let a = c.args in
    tabled-short a.n (length a.outputs.now) (mention_at a.words.now a.n a.outputs.now) a.table.now (laid (goal.at.returns-in_default-ask_room c).In-Some)
    (sym c.ask_room.ensures ∙ c.in_default-ask_room.is)

pub slice_bounds-file-end : goal.slice_bounds-file-end
slice_bounds-file-end c = long (goal.at.slice_bounds-file-end c).In-Some

pub slice_bounds-copy-end : goal.slice_bounds-copy-end
slice_bounds-copy-end c = sym (length-take-le _ _ (long (goal.at.slice_bounds-copy-end c).In-Some))

pub copy-requires : goal.copy-requires
copy-requires c =
    omega (arith, length-take-le c.in-Some.length c.lay.new.file (long (goal.at.copy-requires c).In-Some), room (goal.at.copy-requires c).In-Enough)

pub overflow_cast-result : goal.overflow_cast-result
overflow_cast-result c = omega (arith, fits (goal.at.overflow_cast-result c).In-Some)

pub returns : goal.returns
returns c =
    let a = c.args in
    let f = mention_at a.words.now a.n a.outputs.now in
    tabled-whole a.n (length a.outputs.now) f a.table.now (laid (goal.at.returns c).In-Some) (sym c.ask_room.ensures ∙ c.in-Enough.is)
    (c.copy.ensures ∙ ap (sets a.table.now 0)
    (laid-bytes a.n (length a.outputs.now) f (replicate 243 0) (laid (goal.at.returns c).In-Some) (fits (goal.at.returns c).In-Some) c.in-Some.ensures.written.1))
