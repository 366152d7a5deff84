-- What a buffer holds while lines are worked out into it, one after the other.
use native.Mathlib.Omega.{arith}
use Prim.Native.Nat.{ℕ, ◌+◌, ◌≤◌, ◌<◌}
use mathlib.Core.Path.{◌≡◌, refl, sym, ap, ◌∙◌}
use mathlib.Core.List.{List, [], ◌∷◌, ◌++◌}
use lib.ListN.{length, get_or, take, set}
use lib.Seq.{length-take-le}
use Rattle.simulation.specs.Run.{Driver, Rule, drive, work_out}
use Rattle.files.specs.Room.{over}
use Rattle.files.proofs.Buffers.{over-at, over-set}
use Rattle.simulation.proofs.Runs.{length_run, run_more}

-- The buffer after so many drivers from a line on.
module _ (r : Rule ℕ) (first : ℕ) (buffer : List ℕ) where
  abbrev pub worked : List (Driver ℕ) → List ℕ
  worked ds = work_out r ds (take first buffer)

  module _ (ds : List (Driver ℕ)) (room : first + length ds ≤ length buffer) where
    pub length-worked : length (worked ds) ≡ first + length ds
    length-worked = length_run r ds (take first buffer) ∙ ap (λ (k : ℕ). k + length ds) (length-take-le first buffer (omega arith))

    pub source : (k : ℕ) → k < first + length ds → get_or (over (worked ds) buffer) k 0 ≡ get_or (worked ds) k 0
    source k h = over-at (worked ds) buffer k (omega (arith, length-worked))

  pub one_more : (ds : List (Driver ℕ)) (d : Driver ℕ) (line x : ℕ) → line ≡ first + length ds → line < length buffer →
      x ≡ r.shows line (drive r (worked ds) d) →
      set (over (worked ds) buffer) line x ≡ over (worked (ds ++ (d ∷ []))) buffer
  one_more ds d line x l room e =
      let w = worked ds in
      let k : line ≡ length w = l ∙ sym (length-worked ds (omega arith)) in
      ap (λ (n : ℕ). set (over w buffer) n x) k ∙ over-set w buffer x (omega arith)
      ∙ ap (λ (us : List ℕ). over us buffer)
      (ap (λ (y : ℕ). w ++ (y ∷ [])) (e ∙ ap (λ (n : ℕ). r.shows n (drive r w d)) k) ∙ sym (run_more r ds d (take first buffer)))

pub constants : (buffer : List ℕ) → 2 ≤ length buffer → set (set buffer 0 0) 1 1 ≡ over (0 ∷ 1 ∷ []) buffer
constants [] h = absurd (omega arith)
constants (x ∷ []) h = absurd (omega arith)
constants (x ∷ y ∷ l) h = refl
