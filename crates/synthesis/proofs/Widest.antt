-- The largest of some widths covers each of them.
use Prim.Native.Nat.{ℕ, zero, suc, ◌≤◌, ◌<◌, max}
use native.Mathlib.Omega.{arith}
use mathlib.Core.Path.{◌≡◌}
use mathlib.Core.List.{List, [], ◌∷◌}
use lib.ListN.{length, get_or, take}
use lib.Seq.{get_or-take}
use Rattle.std.proofs.Common.{length-take}
use Rattle.std.specs.Prelude.{fold}
use Rattle.diagram.specs.declared.Diagram.{Diagram}
use Rattle.diagram.specs.Questions.{Sized}
use Rattle.rules.proofs.Bounds.{Covers, width_narrow}

from-start : (xs : List ℕ) (w : ℕ) → w ≤ fold max w xs
from-start [] w = omega arith
from-start (x ∷ xs) w = omega (arith, from-start xs (max w x))

each : (xs : List ℕ) (w k : ℕ) → get_or xs k 0 ≤ fold max w xs
each [] w k = omega arith
each (x ∷ xs) w zero = omega (arith, from-start xs (max w x))
each (x ∷ xs) w (suc k) = each xs (max w x) k

within : (xs : List ℕ) (w m : ℕ) → w ≤ m → ((k : ℕ) → k < length xs → get_or xs k 0 ≤ m) → fold max w xs ≤ m
within [] w m h b = h
within (x ∷ xs) w m h b = within xs (max w x) m (let x = b 0 (omega arith) in omega arith) (λ k l. b (suc k) (omega arith))

module _ (d : Diagram) (sized : Sized d) {w : ℕ} (e : w ≡ fold max 2 (take d.contacts d.widths)) where
  pub covers : Covers d.widths d.contacts w
  covers =
      let ws = take d.contacts d.widths in
      rw e (from-start ws 2, λ k h. rw (get_or-take d.contacts d.widths k 0 h) at (each ws 2 k))

  pub narrow : w ≤ 8
  narrow =
      let ws = take d.contacts d.widths in
      let few = length-take d.contacts d.widths in
      rw e
      (within ws 2 8 (omega arith) (λ k h.
      let here : k < d.contacts = omega arith in
      rw (get_or-take d.contacts d.widths k 0 here) (width_narrow d sized k here)))
