-- Each gate of a block spoils an entry on some output's path when it is stuck, or one of its pins is at 0.
use Prim.Native.Nat.{ℕ, ◌+◌, ◌<◌}
use native.Mathlib.Nat.{add_assoc}
use native.Mathlib.Omega.{arith}
use mathlib.Core.Path.{◌≡◌, sym, ◌∙◌}
use mathlib.Core.Logic.{⊎_elim}
use Rattle.diagram.specs.declared.Diagram.{Diagram}
use Rattle.diagram.specs.Diagram.{width}
use Rattle.diagram.proofs.Unique.{Reduced}
use Rattle.rules.specs.declared.Entry.TheVariants.{Never}
use Rattle.rules.specs.Make.{return, ◌>>=◌}
use Rattle.rules.specs.Blocks.{Cut, one, two, size, entry_at, level_entry, level_matrix, block}
use Rattle.rules.proofs.BlockDown.{block-down}
use Rattle.rules.proofs.Cuts.{size-pos}
use Rattle.faults.proofs.Live.{lit-down, dark-up, leads, misses}
use Rattle.faults.proofs.Hits.{Hit, EachOf, no_hit, hit-table}
use Rattle.faults.proofs.TreeHits.{Cuts, line-cuts}
use Rattle.faults.proofs.EntryHits.{EntryHit, product-hit}
use Rattle.faults.proofs.Shown.{Low, High, Spoils, low-on, high-on}
use Rattle.faults.proofs.Lifts.{after, top, last, parts, hit-parts, low-left, low-right, high-left, high-right}

module _ (d : Diagram) (reduced : Reduced d) (y : ℕ) where
  -- A gate of entry (u, v) of the product of a block's two parts.
  module _ (H : (ℕ → ℕ) → Type 0) (a b : Cut) (left l next : ℕ) (total : l + size (two a b) + left ≡ d.contacts) (u v : ℕ)
      (hu : u < width d l) (hv : v < width d (l + size a + size b))
      (hit : EntryHit H y (width d (l + size a)) (block d a l next).1 (block d b (l + size a) (after d a l next)).1 u v
      (EachOf (last d a b l next) (top d a b l next)) (entry_at (last d a b l next (top d a b l next)).1 u v)) where
    above : l < d.contacts
    above = omega (arith, size-pos a)

    low : Low d H (two a b) l next
    unfolding block ◌>>=◌
    low =
        let w = hit.kept in
        let hw = hit.inside in
        let (s, p) = (leads d a l).result next (lit-down next _) u w hu hw hit.live.0 in
        let (t, q) = (leads d b (l + size a)).result (after d a l next) (lit-down _ _) w v hw hv hit.live.1 in
        low-on d reduced H (two a b) l next u v above hu (size a) (size b) w (omega arith) s t p q
        (λ x ν to-w rails e o shown.
        let (ea, _, ec) = parts d a b l next e in
        let (w', hw', ne, on, _) = hit.low ν ec o shown in
        ne (sym ((block-down d x ν rails a l (omega arith)).result next ea u w' hu hw' on) ∙ to-w))

    high : High d (λ ν. ν y ≡ 1) (two a b) left l next
    unfolding block ◌>>=◌
    high =
        let hv' : v < width d (l + size (two a b)) = rw (← add_assoc l (size a) (size b)) hv in
        ⊎_elim (λ always. absurd (omega (arith, hit.unsure)))
        (λ (s, ne).
        high-on d reduced (λ ν. ν y ≡ 1) (two a b) l next u v above hu left total hv' s ne (λ ν e. hit.high ν (parts d a b l next e).2))
        ((misses d reduced (two a b) left l total).result next (dark-up next _) u v hu hv')

  -- A fault at 0 of the gate at line y, and the line at 1.
  pub gate-faults : (H : (ℕ → ℕ) → Type 0) (c : Cut) (left l next : ℕ) → l + size c + left ≡ d.contacts →
      EachOf (block d c l) next (Cuts H y) → Hit y next (block d c l next).0 → Low d H c l next × High d (λ ν. ν y ≡ 1) c left l next
  unfolding block level_matrix
  gate-faults H one left l next e cuts h =
      let (_, _, _, _, part) = hit-table Never (λ u v. return (level_entry d l u v)) _ _ next h in absurd (no_hit part.hit)
  gate-faults H (two a b) left l next e cuts h =
      let (in-a, in_b, own) = parts d a b l next cuts in
      let r = reduced.ranged in
      ⊎_elim
      (λ h.
      let (low, high) = gate-faults H a (size b + left) l next (omega arith) in-a h in
      (low-left d r a b left l next e H low, high-left d r a b left l next e (λ ν. ν y ≡ 1) high))
      (⊎_elim
      (λ h.
      let (low, high) = gate-faults H b left (l + size a) (after d a l next) (omega arith) in_b h in
      (low-right d r a b left l next e H low, high-right d r a b left l next e (λ ν. ν y ≡ 1) high))
      (λ h.
      let (u, v, hu, hv, hit) = product-hit H y _ _ _ _ _ (top d a b l next) own h in
      (low H a b left l next e u v hu hv hit, high H a b left l next e u v hu hv hit)))
      (hit-parts d a b l next h)

  pub gate-shown : (c : Cut) (left l next : ℕ) → l + size c + left ≡ d.contacts → Hit y next (block d c l next).0 →
      Spoils d y c left l next
  gate-shown c left l next e h =
      let (low, high) = gate-faults (λ ν. ν y ≡ 0) c left l next e (line-cuts y next _) h in record { low = low; high = high }
