-- `Cursor::raw_next` meets its contract: each answer is the case of `raw_step_at` that the tests before it lead to.
use native.Mathlib.Omega.{arith}
use Rattle.fields.proofs.Raw.{raw-end, raw-cut, raw-next}
use Rattle.fields.proofs.Cursor.raw_next.Goals as goal

pub returns-then-file-at : goal.returns-then-file-at
returns-then-file-at c = raw-end _ _ (omega arith)

pub returns-then-left-lt3 : goal.returns-then-left-lt3
returns-then-left-lt3 c = raw-cut _ _ (omega arith) (omega arith)

pub returns-then-left-len : goal.returns-then-left-len
returns-then-left-len c = raw-cut _ _ (omega arith) (omega (arith, c.number-len.ensures))

pub returns : goal.returns
returns c =
    let e = c.number-len.ensures in
    rw e (raw-next _ _ (omega arith) (omega (arith, e)))
