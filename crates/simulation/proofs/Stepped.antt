-- The values that a step works out, and how its lines' bytes are read.
use native.Mathlib.Omega.{arith}
use Prim.Native.Nat.{ℕ, zero, suc, ◌+◌, ◌-◌, ◌≤◌, ◌<◌, min}
use mathlib.Core.Path.{◌≡◌, refl, sym, ap, ap₂, ◌∙◌}
use mathlib.Core.List.{List, [], ◌∷◌, ◌++◌, map, map-append}
use lib.ListN.{length, get_or, take, drop, length-map, length-take, length-drop, take-append-drop, get_or-map}
use lib.Seq.{length-take-le}
use Rattle.fields.proofs.Every.{every_take, every_drop}
use Rattle.files.specs.Room.{over}
use Rattle.files.proofs.Buffers.{over-at}
use Rattle.netlist.specs.Netlist.{Netlist, holds_of, line_count}
use Rattle.simulation.specs.Run.{Driver, holding, drivers_of}
use Rattle.simulation.specs.Service.{read_back, lines_before, stepped_values}
use Rattle.simulation.proofs.Reading.{BitDriver, Bits, bit-drivers, read-bits, reads-bits, worked-bits}
use Rattle.simulation.proofs.Runs.{length_run, run_take}

-- Taking as many as were taken takes the same.
pub take_again : {A : Type 0} (c : ℕ) (xs : List A) → take (length (take c xs)) xs ≡ take c xs
take_again zero xs = refl
take_again (suc c) [] = refl
take_again (suc c) (x ∷ xs) = ap (◌∷◌ x) (take_again c xs)

-- As many lines stand before a place as it says.
pub length_before : (place : ℕ) (lines : List ℕ) → place ≤ length lines → 2 ≤ length lines → length (lines_before place lines) ≡ place
length_before place lines h room = length-take-le place (over (0 ∷ 1 ∷ []) lines) (simp length-drop (omega arith))

-- A step on a netlist whose drivers are those of its lines past the constants.
module _ (net : Netlist) (rails holds : List ℕ) (place count : ℕ) (lines : List ℕ)
    (sized : 2 + length (drivers_of rails net.gates) ≡ line_count net) (from : 2 ≤ place) (upto : place ≤ line_count net) where
  abbrev before : List ℕ
  before = lines_before place lines

  abbrev out : ℕ
  out = min (place + count) (line_count net)

  abbrev ds : List (Driver ℕ)
  ds = drop (place - 2) (drivers_of rails net.gates)

  abbrev values : List ℕ
  values = stepped_values net rails holds place count lines

  -- It ends behind the lines that it works out, which are those between its places.
  pub ends_at : out ≡ place + length (take count ds)
  ends_at = omega (arith, length-take count ds, length-drop (place - 2) (drivers_of rails net.gates))

  pub as_many : take (out - place) ds ≡ take count ds
  as_many = ap (λ (k : ℕ). take k ds) (let e : out - place ≡ length (take count ds) = omega (arith, ends_at) in e) ∙ take_again count ds

  module _ (room : line_count net ≤ length lines) where
    size : length before ≡ place
    size = length_before place lines (omega arith) (omega arith)

    -- With rails of 0 and 1 the lines that it leaves are read as its values.
    module _ (bits : (i : ℕ) → get_or rails i 0 ≤ 1) where
      left-read : map read_back (before ++ drop place values) ≡ values
      left-read =
          let us = map read_back before in
          let sure = every_take BitDriver count ds (every_drop BitDriver (place - 2) _ (bit-drivers rails net.gates bits)) in
          let bit : Bits values = worked-bits (holds_of holds) (take count ds) sure us (reads-bits before) in
          map-append read_back before (drop place values)
          ∙ ap₂ ◌++◌
          (sym (run_take (holding (holds_of holds)) (take count ds) us) ∙ ap (λ (k : ℕ). take k values) (length-map before read_back ∙ size))
          (read-bits (drop place values) (every_drop (λ (v : ℕ). v ≤ 1) place values bit))
          ∙ take-append-drop place values

      length-left : length (before ++ drop place values) ≡ out
      length-left =
          sym (length-map (before ++ drop place values) read_back) ∙ ap length left-read
          ∙ length_run (holding (holds_of holds)) (take count ds) (map read_back before)
          ∙ omega (arith, length-map before read_back, size, ends_at)

      pub read_at : (i : ℕ) → i < out → get_or (map read_back (over (before ++ drop place values) lines)) i 0 ≡ get_or values i 0
      read_at i l =
          let left = before ++ drop place values in
          get_or-map read_back (over left lines) i 0 ∙ ap read_back (over-at left lines i (omega (arith, length-left)))
          ∙ sym (get_or-map read_back left i 0) ∙ ap (λ (us : List ℕ). get_or us i 0) left-read
