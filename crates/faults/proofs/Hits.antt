-- Where the gate of a line is made: in which part of what is made, one after the other.
use Prim.Native.Nat.{ℕ, zero, suc, ◌+◌, ◌≤◌, ◌<◌}
use native.Mathlib.Decide.{dec_lt}
use native.Mathlib.Omega.{arith}
use mathlib.Core.Path.{◌≡◌, refl}
use mathlib.Core.List.{List, [], ◌++◌}
use mathlib.Core.Logic.{◌⊎◌, inl, inr, ⊎_elim}
use lib.ListN.{length, get_or, length-append}
use Rattle.netlist.specs.declared.Gate.{Gate}
use Rattle.rules.specs.Make.{Make, ◌>>=◌, sequence}
use Rattle.rules.proofs.Makes.{Each, each_left, each_right}

-- Line y is one of some gates, the first of which is line next.
pub record Hit (y next : ℕ) (gates : List Gate) : Type 0 where
  pub from : next ≤ y
  pub below : y < next + length gates

-- Each gate that m makes from line next on has P.
abbrev pub EachOf : {A : Type 0} → Make A → ℕ → (ℕ → Gate → Type 0) → Type 0
EachOf m next = λ P. Each P next (m next).0

-- A part of what m makes from line next on, with line y among its gates: k makes it, from line start on, and pick takes it out of
-- the result.
pub record Part {A B : Type 0} (y : ℕ) (m : Make B) (next : ℕ) (pick : B → A) (k : Make A) : Type 1 where
  pub start : ℕ
  pub hit : Hit y start (k start).0
  pub made : pick (m next).1 ≡ (k start).1
  pub each : {P : ℕ → Gate → Type 0} → EachOf m next P → EachOf k start P

-- In a sequence from place p on it is the part of a place k.
abbrev pub Placed : {A : Type 0} → ℕ → A → (ℕ → Make A) → ℕ → ℕ → ℕ → Type 1
Placed y none f count p next =
    (k : ℕ) × (p ≤ k) × (k < p + count)
    × ((i : ℕ) → k ≡ p + i → Part y (sequence f count p) next (λ made. get_or made i none) (f k))

module _ {y : ℕ} where
  pub no_hit : {next : ℕ} → Hit y next [] → ⊥
  no_hit h = omega arith

  pub hit-append : {next : ℕ} (a b : List Gate) → Hit y next (a ++ b) → Hit y next a ⊎ Hit y (next + length a) b
  hit-append {next} a b h = go (dec_lt y (next + length a))
    where
      go : Dec (y < next + length a) → Hit y next a ⊎ Hit y (next + length a) b
      go (yes l) = inl (record { from = h.from; below = l })
      go (no l) = inr (record { from = omega arith; below = omega (arith, h.below, length-append a b) })

  pub hit-sequence : {A : Type 0} (none : A) (f : ℕ → Make A) (count p next : ℕ) → Hit y next (sequence f count p next).0 →
      Placed y none f count p next
  unfolding sequence ◌>>=◌
  hit-sequence none f zero p next h = absurd (no_hit h)
  hit-sequence none f (suc count) p next h =
      ⊎_elim first
      (λ h. ⊎_elim (λ h. later (hit-sequence none f count (suc p) mid h)) (λ h. absurd (no_hit h)) (hit-append _ [] h))
      (hit-append (f p next).0 _ h)
    where
      mid : ℕ
      mid = next + length (f p next).0

      first : Hit y next (f p next).0 → Placed y none f (suc count) p next
      first h = (
        p,
        omega arith,
        omega arith,
        elim [
          | zero ↦ λ _. record { start = next; hit = h; made = refl; each = λ e. each_left (f p next).0 _ e }
          | suc i ↦ λ q. absurd (omega arith)
        ],
      )

      later : Placed y none f count (suc p) mid → Placed y none f (suc count) p next
      later (k, low, high, part) = (
        k,
        omega arith,
        omega arith,
        elim [
          | zero ↦ λ q. absurd (omega arith)
          | suc i ↦ λ q.
              let r = part i (omega arith) in
              record {
                start = r.start;
                hit = r.hit;
                made = r.made;
                each = λ e. r.each (each_left (sequence f count (suc p) mid).0 _ (each_right (f p next).0 _ e));
              }
        ],
      )

  pub hit-table : {A : Type 0} (none : A) (f : ℕ → ℕ → Make A) (rows columns next : ℕ) →
      Hit y next (sequence (λ u. sequence (f u) columns 0) rows 0 next).0 →
      (u v : ℕ) × (u < rows) × (v < columns)
      × Part y (sequence (λ u. sequence (f u) columns 0) rows 0) next (λ m. get_or (get_or m u []) v none) (f u v)
  hit-table none f rows columns next h =
      let (u, _, hu, row) = hit-sequence [] (λ u. sequence (f u) columns 0) rows 0 next h in
      let r = row u (omega arith) in
      let (v, _, hv, cell) = hit-sequence none (f u) columns 0 r.start r.hit in
      let c = cell v (omega arith) in (
        u,
        v,
        omega arith,
        omega arith,
        record { start = c.start; hit = c.hit; made = rw r.made c.made; each = λ e. c.each (r.each e) },
      )
