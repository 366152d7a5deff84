-- A fault that spoils an entry of a block spoils one of each larger block.
use Prim.Native.Nat.{ℕ, ◌+◌, ◌<◌}
use native.Mathlib.Nat.{add_assoc}
use native.Mathlib.Omega.{arith}
use mathlib.Core.Path.{◌≡◌, sym, ◌∙◌}
use mathlib.Core.Bool.{true}
use mathlib.Core.Logic.{◌⊎◌, inl, inr, ⊎_elim}
use lib.ListN.{length}
use Rattle.diagram.specs.declared.Diagram.{Diagram}
use Rattle.diagram.specs.Diagram.{width, Input, path}
use Rattle.diagram.specs.Questions.{in_range}
use Rattle.diagram.proofs.Paths.{path-more, path-in}
use Rattle.netlist.specs.declared.Gate.{Gate}
use Rattle.rules.specs.Make.{Make, ◌>>=◌}
use Rattle.rules.specs.Blocks.{Cut, two, size, Matrix, product, block}
use Rattle.rules.proofs.Makes.{each_left, each_right}
use Rattle.rules.proofs.Valuations.{Down, Up, shows, RailsDown}
use Rattle.rules.proofs.Products.{product-down, product-up}
use Rattle.rules.proofs.BlockDown.{block-down}
use Rattle.rules.proofs.BlockUp.{block_up}
use Rattle.faults.proofs.Hits.{Hit, EachOf, hit-append}
use Rattle.faults.proofs.Routes.{node_at, node-more, node_in}
use Rattle.faults.proofs.Shown.{entry_of, Low, High, Spoils}

-- The line after the gates of a block that is made from line next on.
abbrev pub after : Diagram → Cut → ℕ → ℕ → ℕ
after d c l next = next + length (block d c l next).0

-- A block is its two parts and their product.
module _ (d : Diagram) (a b : Cut) (l next : ℕ) where
  abbrev pub mid : ℕ
  mid = after d a l next

  abbrev pub top : ℕ
  top = after d b (l + size a) mid

  abbrev pub last : Make Matrix
  last =
      product (width d l) (width d (l + size a)) (width d (l + size a + size b)) (block d a l next).1
      (block d b (l + size a) mid).1

  pub parts : {P : ℕ → Gate → Type 0} → EachOf (block d (two a b) l) next P →
      EachOf (block d a l) next P × EachOf (block d b (l + size a)) mid P × EachOf last top P
  unfolding block ◌>>=◌
  parts e =
      let rest = each_right (block d a l next).0 _ e in (
        each_left (block d a l next).0 _ e,
        each_left (block d b (l + size a) mid).0 _ rest,
        each_right (block d b (l + size a) mid).0 _ rest,
      )

  pub hit-parts : {y : ℕ} → Hit y next (block d (two a b) l next).0 →
      Hit y next (block d a l next).0 ⊎ (Hit y mid (block d b (l + size a) mid).0 ⊎ Hit y top (last top).0)
  unfolding block ◌>>=◌
  hit-parts h = ⊎_elim inl (λ h. inr (hit-append (block d b (l + size a) mid).0 _ h)) (hit-append (block d a l next).0 _ h)

module _ (d : Diagram) (ranged : in_range d ≡ true) (a b : Cut) (left l next : ℕ) (total : l + size (two a b) + left ≡ d.contacts) where
  module _ (x : Input) (j : ℕ) (named : j < d.outputs) (ν : ℕ → ℕ) where
    -- If the entry on the path shows 1, so do the entries on the path in the two parts.
    down : RailsDown d.contacts x ν → EachOf (block d (two a b) l) next (Down ν) →
        shows ν (entry_of d (two a b) l next (node_at d x j l) (node_at d x j (l + size (two a b)))) ≡ 1 →
        (shows ν (entry_of d a l next (node_at d x j l) (node_at d x j (l + size a))) ≡ 1)
        × (shows ν
        (entry_of d b (l + size a) (after d a l next) (node_at d x j (l + size a)) (node_at d x j (l + size a + size b)))
        ≡ 1)
    unfolding block ◌>>=◌
    down rails e =
        let (ea, _, ec) = parts d a b l next e in
        let from = node_in d x j ranged named l (omega arith) in
        let to = node_in d x j ranged named (l + size a + size b) (omega arith) in
        rw (← add_assoc l (size a) (size b)) (λ s.
        let (w, hw, p, q) = (product-down ν _ _ _ _ _).result (top d a b l next) ec _ _ from to s in
        let leads = (block-down d x ν rails a l (omega arith)).result next ea _ w from hw p in
        let same = sym leads ∙ node-more d x j (size a) l in
        (rw same at p, rw same at q))

    -- Entries of the two parts that show 1 one after the other make their product show 1.
    up : EachOf (block d (two a b) l) next (Up ν) → (w v : ℕ) → w < width d (l + size a) →
        v < width d (l + size a + size b) →
        shows ν (entry_of d a l next (node_at d x j l) w) ≡ 1 →
        shows ν (entry_of d b (l + size a) (after d a l next) w v) ≡ 1 →
        shows ν (entry_of d (two a b) l next (node_at d x j l) v) ≡ 1
    unfolding block ◌>>=◌
    up e w v hw hv p q =
        (product-up ν _ _ _ _ _).result (top d a b l next) (parts d a b l next e).2 _ v
        (node_in d x j ranged named l (omega arith)) hv (w, hw, p, q)

  module _ (H : (ℕ → ℕ) → Type 0) where
    pub low-left : Low d H a l next → Low d H (two a b) l next
    low-left (j, hj, x, low) = (j, hj, x, λ ν rails e o r. low ν rails (parts d a b l next e).0 o (down x j hj ν rails e r).0)

    pub low-right : Low d H b (l + size a) (after d a l next) → Low d H (two a b) l next
    low-right (j, hj, x, low) = (j, hj, x, λ ν rails e o r. low ν rails (parts d a b l next e).1 o (down x j hj ν rails e r).1)

    pub high-left : High d H a (size b + left) l next → High d H (two a b) left l next
    high-left (j, hj, x, w, hw, wrong, high) =
        let v = path d x (size b) (l + size a) w in
        let hv = path-in d ranged x (size b) (l + size a) w (omega arith) hw in
        rw (← add_assoc l (size a) (size b)) (
          j,
          hj,
          x,
          v,
          hv,
          λ p. wrong (path-more d x (size b) left (l + size a) w ∙ p),
          λ ν rails e o.
              let (ea, eb, _) = parts d a b l next e in
              let on = (block_up d ranged x ν rails b (l + size a) (omega arith)).result (after d a l next) eb w hw in
              up x j hj ν e w v hw hv (high ν rails ea o) on,
        )

    pub high-right : High d H b left (l + size a) (after d a l next) → High d H (two a b) left l next
    high-right (j, hj, x, v, hv, wrong, high) =
        let hu = node_in d x j ranged hj l (omega arith) in
        let hw = node_in d x j ranged hj (l + size a) (omega arith) in
        rw (← add_assoc l (size a) (size b)) (
          j,
          hj,
          x,
          v,
          hv,
          wrong,
          λ ν rails e o.
              let (ea, eb, _) = parts d a b l next e in
              let on = (block_up d ranged x ν rails a l (omega arith)).result next ea (node_at d x j l) hu in
              up x j hj ν e (node_at d x j (l + size a)) v hw hv (rw (node-more d x j (size a) l) at on) (high ν rails eb o),
        )

-- Of a stuck line.
module _ (d : Diagram) (ranged : in_range d ≡ true) (y : ℕ) (a b : Cut) (left l next : ℕ)
    (total : l + size (two a b) + left ≡ d.contacts) where
  pub shown-left : Spoils d y a (size b + left) l next → Spoils d y (two a b) left l next
  shown-left s =
      record { low = low-left d ranged a b left l next total _ s.low; high = high-left d ranged a b left l next total _ s.high }

  pub shown-right : Spoils d y b left (l + size a) (after d a l next) → Spoils d y (two a b) left l next
  shown-right s =
      record { low = low-right d ranged a b left l next total _ s.low; high = high-right d ranged a b left l next total _ s.high }
