-- Each line of a netlist shows with the lamp what it shows without it, and is as deep.
use Prim.Native.Nat.{ℕ, ◌+◌, ◌*◌, ◌<◌}
use native.Mathlib.Omega.{arith}
use mathlib.Core.Path.{◌≡◌, sym, ap, ◌∙◌}
use mathlib.Core.List.{List, [], ◌∷◌, ◌++◌, map, map-append, append_assoc}
use lib.ListN.{length, get_or, replicate, length-append, length-map, length-replicate}
use Rattle.netlist.specs.declared.Hold.{Hold}
use Rattle.netlist.specs.Netlist.{Netlist, gate_line, line_count}
use Rattle.simulation.specs.Run.{Driver, rail, gate, Rule, work_out, holding, drivers_of, values_of}
use Rattle.simulation.proofs.Runs.{length_run, run-first, run-append}
use Rattle.rules.specs.Board.{depth_rule, depths_of}
use Rattle.rules.specs.Lamp.{lamp_of, with_lamp}
use Rattle.rules.proofs.Depths.{depth_at}
use Rattle.rules.proofs.Held.{shown}

-- Further drivers change no value before theirs.
run-front : {A : Type 0} (r : Rule A) (ds es : List (Driver A)) (vs : List A) (i : ℕ) (e : A) → i < length vs + length ds →
    get_or (work_out r (ds ++ es) vs) i e ≡ get_or (work_out r ds vs) i e
run-front {A} r ds es vs i e h =
    ap (λ (ws : List A). get_or ws i e) (run-append r ds es vs)
    ∙ run-first r es (work_out r ds vs) i e (rw (length_run r ds vs) h)

module _ (net : Netlist) where
  pub lamp-lines : line_count (with_lamp net) ≡ line_count net + length (lamp_of net).0
  unfolding with_lamp
  lamp-lines = omega (arith, length-append net.gates (lamp_of net).0)

  pub plain-line : (rails : List ℕ) (holds : List Hold) → length rails ≡ 2 * net.contacts → (y : ℕ) → y < line_count net →
      shown (with_lamp net) rails holds y ≡ shown net rails holds y
  unfolding with_lamp values_of
  plain-line rails holds l y h =
      let plain = drivers_of rails net.gates in
      let added : List (Driver ℕ) = map gate (lamp_of net).0 in
      let parts : drivers_of rails (net.gates ++ (lamp_of net).0) ≡ plain ++ added =
      ap (λ (ds : List (Driver ℕ)). map rail rails ++ ds) (map-append gate net.gates (lamp_of net).0)
      ∙ sym (append_assoc (map rail rails) (map gate net.gates) added) in
      let count : length plain ≡ 2 * net.contacts + length net.gates = simp (length-append, length-map) (omega arith) in
      ap (λ (ds : List (Driver ℕ)). get_or (work_out (holding holds) ds (0 ∷ 1 ∷ [])) y 0) parts
      ∙ run-front (holding holds) plain added (0 ∷ 1 ∷ []) y 0 (omega arith)

  pub plain-depth : (y : ℕ) → y < line_count net → depth_at (with_lamp net) y ≡ depth_at net y
  unfolding with_lamp depths_of
  plain-depth y h =
      let flat : List ℕ = replicate (gate_line net.contacts) 0 in
      ap (λ (ds : List (Driver ℕ)). get_or (work_out depth_rule ds flat) y 0) (map-append gate net.gates (lamp_of net).0)
      ∙ run-front depth_rule (map gate net.gates) (map gate (lamp_of net).0) flat y 0
      (simp (length-replicate, length-map) h)
