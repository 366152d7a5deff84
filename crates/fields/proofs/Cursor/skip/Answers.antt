-- `Cursor::skip` meets its contract: what is left after `counter` fields is the invariant.
use native.Mathlib.Omega.{arith}
use Prim.Native.Nat.{ℕ, ◌+◌, ◌≤◌, ◌-◌}
use native.Mathlib.Nat.{le_antisymm, add-sub_of_le}
use mathlib.Core.List.{List, [], ◌∷◌}
use lib.Seq.{drop-drop, drop-nil}
use mathlib.Core.Path.{◌≡◌, refl, sym, ap, ◌∙◌}
use lib.ListN.{drop}
use Rattle.fields.specs.Fields.{Item, Fields}
use Rattle.fields.proofs.Steps.{walk, ended}
use Rattle.fields.proofs.Cursor.skip.Goals as goal

-- What is left after k elements, where it is one element and r; and where it is nothing.
module _ (l : List Item) (k : ℕ) {m : List Item} (e : m ≡ drop k l) where
  one_more : {i : Item} {r : List Item} → m ≡ i ∷ r → r ≡ drop (k + 1) l
  one_more d = ap (drop 1) (sym d ∙ e) ∙ drop-drop 1 k l

  no_more : (n : ℕ) → k ≤ n → m ≡ [] → m ≡ drop n l
  no_more n h d =
      d ∙ sym (drop-nil (n - k)) ∙ ap (drop (n - k)) (sym d ∙ e) ∙ drop-drop (n - k) k l
      ∙ ap (λ (j : ℕ). drop j l) (add-sub_of_le h)

pub loop-init : goal.loop-init
loop-init c = (omega arith, refl)

pub returns-in_default : goal.returns-in_default
returns-in_default c =
    let loop = c.loop in
    no_more _ loop.counter loop.invariant.1 _ loop.invariant.0 (ended _ _ _ (sym c.next.ensures) c.in_default.not-Next)

pub loop-preserved : goal.loop-preserved
loop-preserved c =
    let step = c in
    let loop = step.loop in
    let e = ap (λ (fs : Fields). fs.items) (walk _ _ (sym step.next.ensures ∙ c.in-Next.is)) in
    (omega arith, one_more _ loop.counter loop.invariant.1 e)

pub returns : goal.returns
returns c =
    let loop = c.loop in
    rw (le_antisymm loop.invariant.0 c.loop-test.false) at loop.invariant.1
