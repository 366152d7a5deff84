-- Lines of a buffer worked out from one to another, by any rule and any drivers.
use native.Mathlib.Nat.{add-sub_of_le}
use native.Mathlib.Omega.{arith}
use Prim.Native.Nat.{ℕ, suc, ◌+◌, ◌-◌, ◌≤◌, ◌<◌}
use mathlib.Core.Path.{◌≡◌, sym, ap, ap₂, ◌∙◌}
use mathlib.Core.List.{List, [], ◌∷◌, ◌++◌, map}
use lib.ListN.{length, get_or, take, drop, set, length-append, length-map, length-drop, get_or-append, get_or-map}
use lib.Seq.{length-take-le, take-suc, take-add, take_at, get_or-drop, get_or-append-add, take-append-le, drop-append-le, drop-drop}
use Rattle.files.specs.Room.{over}
use Rattle.files.proofs.Buffers.{over-own, over-over}
use Rattle.netlist.specs.declared.Gate.{Gate}
use Rattle.simulation.specs.Run.{Driver, rail, gate, Rule, drive, work_out, drivers_of}
use Rattle.simulation.proofs.Runs.{length_run, run-append}
use Rattle.simulation.proofs.Writes.{length-worked, source, one_more}

-- The drivers of the lines from one to another, line 2 having the first.
abbrev pub part_of : List (Driver ℕ) → ℕ → ℕ → List (Driver ℕ)
part_of drivers from to = take (to - from) (drop (from - 2) drivers)

module _ (drivers : List (Driver ℕ)) (from : ℕ) (after : 2 ≤ from) where
  pub length_part : (to : ℕ) → from ≤ to → to ≤ 2 + length drivers → length (part_of drivers from to) ≡ to - from
  length_part to l h = length-take-le (to - from) (drop (from - 2) drivers) (simp length-drop (omega arith))

  part-more : (x : ℕ) (d : Driver ℕ) → from ≤ x → x < 2 + length drivers →
      part_of drivers from (x + 1) ≡ part_of drivers from x ++ (get_or drivers (x - 2) d ∷ [])
  part-more x d l h =
      let step : x + 1 - from ≡ suc (x - from) = omega arith in
      let place : from - 2 + (x - from) ≡ x - 2 = omega arith in
      ap (λ (k : ℕ). take k (drop (from - 2) drivers)) step
      ∙ take-suc (drop (from - 2) drivers) (x - from) d (simp length-drop (omega arith))
      ∙ ap (λ (e : Driver ℕ). part_of drivers from x ++ (e ∷ []))
      (get_or-drop (from - 2) drivers (x - from) d ∙ ap (λ (k : ℕ). get_or drivers k d) place)

  module _ (r : Rule ℕ) (buffer : List ℕ) where
    abbrev pub up_to : ℕ → List ℕ
    up_to to = work_out r (part_of drivers from to) (take from buffer)

    pub length_up : (to : ℕ) → from ≤ to → to ≤ 2 + length drivers → to ≤ length buffer → length (up_to to) ≡ to
    length_up to l h room =
        length-worked r from buffer (part_of drivers from to) (omega (arith, length_part to l h))
        ∙ ap (◌+◌ from) (length_part to l h) ∙ add-sub_of_le l

    pub none-worked : from ≤ length buffer → over (up_to from) buffer ≡ buffer
    unfolding work_out
    none-worked h =
        let none : from - from ≡ 0 = omega arith in
        ap (λ (k : ℕ). over (work_out r (take k (drop (from - 2) drivers)) (take from buffer)) buffer) none ∙ sym (over-own from buffer h)

    pub line-worked : (x v : ℕ) (d : Driver ℕ) → from ≤ x → x < 2 + length drivers → x < length buffer →
        v ≡ r.shows x (drive r (up_to x) (get_or drivers (x - 2) d)) → set (over (up_to x) buffer) x v ≡ over (up_to (x + 1)) buffer
    line-worked x v d l h room e =
        one_more r from buffer (part_of drivers from x) (get_or drivers (x - 2) d) x v (omega (arith, length_part x l (omega arith))) room e
        ∙ ap (λ (ds : List (Driver ℕ)). over (work_out r ds (take from buffer)) buffer) (sym (part-more x d l h))

    pub source-worked : (x k : ℕ) → from ≤ x → x ≤ 2 + length drivers → x ≤ length buffer → k < x →
        get_or (over (up_to x) buffer) k 0 ≡ get_or (up_to x) k 0
    source-worked x k l h room i = source r from buffer (part_of drivers from x) (omega (arith, length_part x l h)) k (omega (arith, length_part x l h))

    -- Further lines from where some end.
    pub further : (mid to : ℕ) → from ≤ mid → mid ≤ to → to ≤ 2 + length drivers → to ≤ length buffer →
        over (work_out r (part_of drivers mid to) (take mid (over (up_to mid) buffer))) (over (up_to mid) buffer) ≡ over (up_to to) buffer
    further mid to l g h room =
        let size = length_up mid l (omega arith) (omega arith) in
        let ds = part_of drivers mid to in
        let apart : to - from ≡ mid - from + (to - mid) = omega arith in
        let place : from - 2 + (mid - from) ≡ mid - 2 = omega arith in
        let parts : part_of drivers from to ≡ part_of drivers from mid ++ ds =
        ap (λ (k : ℕ). take k (drop (from - 2) drivers)) apart
        ∙ take-add (mid - from) (to - mid) (drop (from - 2) drivers)
        ∙ ap (λ (es : List (Driver ℕ)). part_of drivers from mid ++ take (to - mid) es)
        (drop-drop (mid - from) (from - 2) drivers ∙ ap (λ (k : ℕ). drop k drivers) place) in
        ap (λ (vs : List ℕ). over (work_out r ds vs) (over (up_to mid) buffer)) (take_at (up_to mid) (drop (length (up_to mid)) buffer) mid size)
        ∙ over-over (work_out r ds (up_to mid)) buffer (up_to mid) (omega (arith, length_run r ds (up_to mid)))
        ∙ ap (λ (vs : List ℕ). over vs buffer)
        (sym (run-append r (part_of drivers from mid) ds (take from buffer)) ∙ ap (λ (es : List (Driver ℕ)). work_out r es (take from buffer)) (sym parts))

-- The driver of a rail and of a gate.
module _ (rails : List ℕ) (gates : List Gate) where
  pub length-drivers : length (drivers_of rails gates) ≡ length rails + length gates
  length-drivers = length-append (map rail rails) (map gate gates) ∙ ap₂ ◌+◌ (length-map rails rail) (length-map gates gate)

  pub rail-driver : (i : ℕ) → i < length rails → get_or (drivers_of rails gates) i (rail 0) ≡ rail (get_or rails i 0)
  rail-driver i h =
      get_or-append (map rail rails) (map gate gates) (rail 0) i (rw (length-map rails rail) h) ∙ get_or-map rail rails i 0

  pub gate-driver : (g : ℕ) (d : Gate) → g < length gates → get_or (drivers_of rails gates) (length rails + g) (gate d) ≡ gate (get_or gates g d)
  gate-driver g d h =
      ap (λ (k : ℕ). get_or (drivers_of rails gates) (k + g) (gate d)) (sym (length-map rails rail))
      ∙ get_or-append-add (map rail rails) (map gate gates) g (gate d) ∙ get_or-map gate gates g d

  -- The rails' part does not depend on the gates.
  pub rails-part : (from to : ℕ) → from ≤ to → 2 ≤ from → to ≤ 2 + length rails → part_of (drivers_of rails []) from to ≡ part_of (drivers_of rails gates) from to
  rails-part from to l g h = front (map gate []) ∙ sym (front (map gate gates))
    where
      front : (es : List (Driver ℕ)) → part_of (map rail rails ++ es) from to ≡ part_of (map rail rails) from to
      front es =
          let size = length-map rails rail in
          ap (take (to - from)) (drop-append-le (from - 2) (map rail rails) es (omega arith))
          ∙ take-append-le (to - from) (drop (from - 2) (map rail rails)) es (simp length-drop (omega arith))
