-- `reading::read_off` meets its contract: a table that is not refused keeps the limits, so that the shift and the word fit.
use native.Mathlib.Omega.{arith}
use native.Mathlib.Nat.{one-mul}
use Prim.Native.Nat.{ℕ, ◌^◌, ◌%◌, ◌≤◌, ◌*◌}
use mathlib.Core.Path.{◌≡◌, sym, ◌∙◌}
use mathlib.Core.List.{List}
use lib.Pow.{shl_exact}
use Rattle.std.proofs.lemmas.Result.{err_from_is_err_and}
use Rattle.diagram.specs.declared.Diagram.{Diagram}
use Rattle.diagram.specs.Questions.{Sized}
use Rattle.table.specs.Table.{diagram_in, table_refusal}
use Rattle.table.proofs.Accepted.{accepted}
use Rattle.table.proofs.Tables.{reading-refused, reading-outside, reading-inside}
use Rattle.table.proofs.reading.read_off.Goals as goal

one_shifted : (n : ℕ) → n ≤ 12 → 1 * 2 ^ n % 2 ^ 32 ≡ 2 ^ n
one_shifted n h = shl_exact {a = 1} 1 n 32 (omega arith) (omega arith) ∙ one-mul (2 ^ n)

pub returns-in_err-d : goal.returns-in_err-d
returns-in_err-d c =
    let p = err_from_is_err_and c.from_residual.result c.from_residual.ensures.1 in
    rw (p.1, p.2) (reading-refused _ _ _ c.in_err-d.ensures.refusal)

-- The table read from a file keeps the limits.
kept : (file : List ℕ) {d : Diagram} → 0 ≡ table_refusal file → d ≡ diagram_in file → Sized d
kept file z e = rw e (accepted file (sym z)).sized

pub overflow_cast-d : goal.overflow_cast-d
overflow_cast-d c = let read = c.in_ok-d.ensures in omega (arith, (kept _ read.refusal read.diagram).contacts)

pub overflow_shl-d : goal.overflow_shl-d
overflow_shl-d c = let read = c.in_ok-d.ensures in omega (arith, (kept _ read.refusal read.diagram).contacts)

pub returns-then-d-a : goal.returns-then-d-a
returns-then-d-a c =
    let read = c.in_ok-d.ensures in
    let e = one_shifted c.in_ok-d.d.contacts (kept _ read.refusal read.diagram).contacts.1 in
    reading-outside _ _ read.refusal read.diagram (rw e at c.if-d-a.true)

pub word-requires : goal.word-requires
word-requires c =
    let read = c.in_ok-d.ensures in
    let limits = kept _ read.refusal read.diagram in
    (limits.contacts.1, limits.outputs.1)

pub returns : goal.returns
returns c =
    let read = c.in_ok-d.ensures in
    let e = one_shifted c.in_ok-d.d.contacts (kept _ read.refusal read.diagram).contacts.1 in
    reading-inside _ _ read.refusal read.diagram (rw e at c.if-d-a.false) c.word.ensures
