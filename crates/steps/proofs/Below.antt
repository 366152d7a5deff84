-- The values of the lines below a place, worked out by some lines a step.
use native.Mathlib.Nat.{add-sub_of_le}
use native.Mathlib.Omega.{arith}
use Prim.Native.Nat.{ℕ, ◌+◌, ◌-◌, ◌≤◌, ◌<◌}
use mathlib.Core.Path.{◌≡◌, sym, ap, ◌∙◌}
use mathlib.Core.List.{List, [], ◌∷◌, ◌++◌, map}
use lib.ListN.{length, get_or, take, drop, take-append-drop}
use lib.Seq.{length-take-le, take_at, take-append-le, take-add}
use Rattle.fields.proofs.Every.{Every, every_take, every-weaken}
use Rattle.files.specs.Room.{over}
use Rattle.netlist.specs.declared.Gate.{Gate}
use Rattle.netlist.specs.declared.Hold.{Hold}
use Rattle.simulation.specs.Run.{Driver, work_out, held, holding, drivers_of}
use Rattle.simulation.specs.Service.{read_back, lines_before}
use Rattle.simulation.proofs.Runs.{length_run, run-append, run_take}
use Rattle.simulation.proofs.Monotone.{held-elsewhere}
use Rattle.simulation.proofs.Reading.{BitDriver, bit-drivers, worked-bits, read-bits}
use Rattle.simulation.proofs.Stepped.{take_again}
use Rattle.steps.specs.Steps.{counted_in}
use Rattle.steps.proofs.Sites.{held-append, counted-within, held-within, hold-agree}
use Rattle.steps.proofs.Ordered.{Before}

abbrev constants : List ℕ
constants = 0 ∷ 1 ∷ []

-- The constants written over a buffer whose lines begin with them.
begun : (ws buffer : List ℕ) → 2 ≤ length ws → take 2 ws ≡ constants → over constants (over ws buffer) ≡ over ws buffer
begun ws buffer l e =
    let both = over ws buffer in
    ap (λ (c : List ℕ). c ++ drop 2 both) (sym (take-append-le 2 ws (drop (length ws) buffer) l ∙ e)) ∙ take-append-drop 2 both

module _ (rails : List ℕ) (gates : List Gate) where
  abbrev drivers : List (Driver ℕ)
  drivers = drivers_of rails gates

  -- The lines below a place, with these holds.
  abbrev pub below : List Hold → ℕ → List ℕ
  below holds place = work_out (holding holds) (take (place - 2) drivers) constants

  pub length-below : (holds : List Hold) (place : ℕ) → 2 ≤ place → place ≤ 2 + length drivers → length (below holds place) ≡ place
  length-below holds place l h =
      length_run (holding holds) (take (place - 2) drivers) constants
      ∙ ap (◌+◌ 2) (length-take-le (place - 2) drivers (omega arith)) ∙ add-sub_of_le l

  -- A step from a place on works out the lines below its place out with the holds that counted before and its own that count.
  module _ (counted : List Hold) (place : ℕ) (from : 2 ≤ place) (upto : place ≤ 2 + length drivers)
      (named : Every (Before place) counted) (holds : List Hold) (count out : ℕ)
      (ends : out ≡ place + length (take count (drop (place - 2) drivers))) where
    abbrev ds : List (Driver ℕ)
    ds = take count (drop (place - 2) drivers)

    abbrev new : List Hold
    new = counted_in place out holds

    -- Lines below the place see the holds before, those from it on the step's.
    sees-before : (x s v : ℕ) → x < place → held (counted ++ new) x s v ≡ held counted x s v
    sees-before x s v l =
        held-append counted new x s v
        ∙ ap (held counted x s)
        (held-elsewhere new x s v
        (every-weaken (λ (h : Hold). (place ≤ h.line) × (h.line < out)) (λ h. h.line ≡ x → ⊥) (λ h p e. omega arith) new
        (counted-within place out holds)))

    sees-after : (x s v : ℕ) → place ≤ x → x < out → held (counted ++ new) x s v ≡ held holds x s v
    sees-after x s v l h =
        held-append counted new x s v
        ∙ held-elsewhere counted x s _ (every-weaken (Before place) (λ h. h.line ≡ x → ⊥) (λ h p e. omega (arith, p.0)) counted named)
        ∙ held-within place out x s v l h holds

    pub below_more : work_out (holding holds) ds (below counted place) ≡ below (counted ++ new) out
    below_more =
        let all = counted ++ new in
        let size = length-below counted place from upto in
        let parts : take (out - 2) drivers ≡ take (place - 2) drivers ++ ds =
        ap (λ (k : ℕ). take k drivers) (let e : out - 2 ≡ place - 2 + length ds = omega arith in e)
        ∙ take-add (place - 2) (length ds) drivers
        ∙ ap (◌++◌ (take (place - 2) drivers)) (take_again count (drop (place - 2) drivers)) in
        sym
        (ap (λ (es : List (Driver ℕ)). work_out (holding all) es constants) parts
        ∙ run-append (holding all) (take (place - 2) drivers) ds constants
        ∙ ap (work_out (holding all) ds)
        (hold-agree all counted (take (place - 2) drivers) constants
        (λ x s v l h. sees-before x s v (omega (arith, length_run (holding counted) (take (place - 2) drivers) constants))))
        ∙ hold-agree all holds ds (below counted place) (λ x s v l h. sees-after x s v (omega arith) (omega arith)))

  -- They are read back as they are.
  pub below-read : ((i : ℕ) → get_or rails i 0 ≤ 1) → (holds : List Hold) (place : ℕ) → map read_back (below holds place) ≡ below holds place
  below-read bits holds place =
      read-bits (below holds place)
      (worked-bits holds (take (place - 2) drivers) (every_take BitDriver (place - 2) drivers (bit-drivers rails gates bits)) constants
      (omega arith, (omega arith, tt)))

  -- What a step finds of the lines that the one before it left.
  pub below-kept : (holds : List Hold) (place : ℕ) → 2 ≤ place → place ≤ 2 + length drivers → (buffer : List ℕ) →
      lines_before place (over (below holds place) buffer) ≡ below holds place
  below-kept holds place l h buffer =
      let size = length-below holds place l h in
      ap (take place) (begun (below holds place) buffer (omega arith) (run_take (holding holds) (take (place - 2) drivers) constants))
      ∙ take_at (below holds place) (drop (length (below holds place)) buffer) place size
