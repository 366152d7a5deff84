-- Stepping a cursor from the start yields the fields of the file, for every byte string.
use Prim.Native.Nat.{ℕ, zero, suc, ◌-◌, ◌<◌}
use native.Mathlib.Omega.{arith}
use mathlib.Core.Path.{◌≡◌, refl}
use mathlib.Core.List.{List}
use lib.ListN.{length}
use Rattle.fields.specs.declared.Step.{Step}
use Rattle.fields.specs.declared.Step.TheVariants.{Next, End, Cut}
use Rattle.fields.specs.Fields.{fields_from, fields_of}
use Rattle.fields.specs.Inner.Walk.{step_at, Walk, ended, broken, stepped, WalkYieldsFields}
use Rattle.fields.proofs.Steps.{stands, walk}

from : (fuel : ℕ) (file : List ℕ) (at : ℕ) → length file - at < fuel → Walk file at (fields_from file at)
from zero file at h = absurd (omega arith)
from (suc fuel) file at h = go (from fuel file) (step_at file at) refl
  where
    go : ((k : ℕ) → length file - k < fuel → Walk file k (fields_from file k)) →
        (s : Step) → step_at file at ≡ s → Walk file at (fields_from file at)
    go rest (Next f c) e =
        let s = stands file at f c e in
        rw (walk file at e) (stepped e (rest c.at (omega arith)))
    go rest End e = rw (walk file at e) (ended e)
    go rest Cut e = rw (walk file at e) (broken e)

pub walk-yields-fields : WalkYieldsFields
unfolding fields_of
walk-yields-fields file = from (suc (length file)) file 0 (omega arith)
