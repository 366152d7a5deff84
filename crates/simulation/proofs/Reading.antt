-- Values are read back as they are; other bytes are read as the value 1.
use native.Mathlib.Nat.{mod-lt}
use native.Mathlib.Omega.{arith}
use Prim.Native.Nat.{ℕ, zero, suc, ◌<◌, ◌≤◌}
use mathlib.Core.Path.{◌≡◌, refl, ap₂}
use mathlib.Core.Bool.{Bool, true, false, cond}
use mathlib.Core.List.{List, [], ◌∷◌, map}
use lib.Dec.{eqb}
use lib.ListN.{length, get_or}
use Rattle.fields.proofs.Every.{Every, every-at, every_append}
use Rattle.netlist.specs.declared.Gate.{Gate}
use Rattle.netlist.specs.declared.Hold.{Hold}
use Rattle.netlist.specs.Netlist.{level_of}
use Rattle.simulation.specs.Run.{Driver, rail, gate, drive, work_out, held, holding, drivers_of}
use Rattle.simulation.specs.Service.{read_back}
use Rattle.simulation.proofs.Monotone.{AllHeld, held_by, gate-bit}

abbrev pub Bits : List ℕ → Type 0
Bits = Every (λ (v : ℕ). v ≤ 1)

pub read-bit : (v : ℕ) → v ≤ 1 → read_back v ≡ v
read-bit zero h = refl
read-bit (suc zero) h = refl
read-bit (suc (suc v)) h = absurd (omega arith)

pub read-bits : (vs : List ℕ) → Bits vs → map read_back vs ≡ vs
read-bits [] h = refl
read-bits (v ∷ vs) h = ap₂ ◌∷◌ (read-bit v h.0) (read-bits vs h.1)

pub reads-bit : (v : ℕ) → read_back v ≤ 1
reads-bit v = go (eqb v 0)
  where
    go : (b : Bool) → ◌≤◌ (cond b 0 1) 1
    go true = let h : 0 ≤ 1 = omega arith in h
    go false = let h : 1 ≤ 1 = omega arith in h

pub reads-bits : (vs : List ℕ) → Bits (map read_back vs)
reads-bits [] = tt
reads-bits (v ∷ vs) = (reads-bit v, reads-bits vs)

-- A driver whose rail's byte, if it is a rail's, is 0 or 1.
abbrev pub BitDriver : Driver ℕ → Type 0
BitDriver (rail a) = a ≤ 1
BitDriver (gate g) = Unit

pub bit-drivers : (rails : List ℕ) (gates : List Gate) → ((i : ℕ) → get_or rails i 0 ≤ 1) → Every BitDriver (drivers_of rails gates)
bit-drivers rails gates bits = every_append BitDriver (map rail rails) (map gate gates) (of-rails rails bits) (of-gates gates)
  where
    of-rails : (rails : List ℕ) → ((i : ℕ) → get_or rails i 0 ≤ 1) → Every BitDriver (map rail rails)
    of-rails [] h = tt
    of-rails (a ∷ rails) h = (h 0, of-rails rails (λ i. h (suc i)))

    of-gates : (gates : List Gate) → Every BitDriver (map gate gates)
    of-gates [] = tt
    of-gates (g ∷ gates) = (tt, of-gates gates)

pub level-bit : (h : Hold) → level_of h ≤ 1
level-bit h = omega (arith, mod-lt h.value (let two : 0 < 2 = omega arith in two))

module _ (holds : List Hold) where
  levels : (hs : List Hold) → AllHeld (λ v. v ≤ 1) hs
  levels [] = tt
  levels (h ∷ hs) = (level-bit h, levels hs)

  held-bit : (x s v : ℕ) → v ≤ 1 → held holds x s v ≤ 1
  held-bit = held_by (λ v. v ≤ 1) (λ v. v ≤ 1) (λ v e. e) holds (levels holds)

  drive-bit : (vs : List ℕ) → Bits vs → (d : Driver ℕ) → BitDriver d → drive (holding holds) vs d ≤ 1
  unfolding drive
  drive-bit vs h (rail a) b = b
  drive-bit vs h (gate g) b =
      let at : (i : ℕ) → get_or vs i 0 ≤ 1 = every-at (λ (v : ℕ). v ≤ 1) vs 0 (omega arith) h in
      gate-bit g.kind _ _ (held-bit (length vs) 1 _ (at g.left)) (held-bit (length vs) 2 _ (at g.right))

  -- What a line shows, given values before it.
  pub shows-bit : (vs : List ℕ) → Bits vs → (d : Driver ℕ) → BitDriver d → held holds (length vs) 0 (drive (holding holds) vs d) ≤ 1
  shows-bit vs h d b = held-bit (length vs) 0 _ (drive-bit vs h d b)

  pub worked-bits : (ds : List (Driver ℕ)) → Every BitDriver ds → (vs : List ℕ) → Bits vs → Bits (work_out (holding holds) ds vs)
  unfolding work_out
  worked-bits [] b vs h = h
  worked-bits (d ∷ ds) b vs h =
      worked-bits ds b.1 _ (every_append (λ (v : ℕ). v ≤ 1) vs _ h (shows-bit vs h d b.0, tt))
