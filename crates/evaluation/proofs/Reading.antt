-- The bytes that lines are worked out from, and the values that these are read as.
use native.Mathlib.Omega.{arith}
use Prim.Native.Nat.{ℕ, ◌-◌, ◌≤◌}
use mathlib.Core.Path.{◌≡◌, refl, sym, ap, ap₂, ◌∙◌}
use mathlib.Core.Bool.{Bool, true, false, ◌&&◌, cond}
use mathlib.Core.List.{List, [], ◌∷◌, ◌++◌, map, map-append, append-nil, append_assoc}
use lib.Dec.{eqb}
use lib.ListN.{length, get_or, take, drop, set, length-append, length-map, length-drop, get_or-map, take-append-drop}
use lib.Seq.{drop-length, drop-append_seam, length-take-le}
use Rattle.fields.proofs.Every.{Every, every_take, every_drop}
use Rattle.files.specs.Room.{over}
use Rattle.files.proofs.Buffers.{over-over}
use Rattle.netlist.specs.declared.Hold.{Hold}
use Rattle.netlist.specs.Netlist.{site_of, level_of, gates_of}
use Rattle.simulation.specs.Run.{Driver, rail, gate, drive, work_out, gate_of, held, holding, drivers_of}
use Rattle.simulation.specs.Service.{read_back, lines_before}
use Rattle.simulation.proofs.Reading.{BitDriver, level-bit, read-bit, reads-bits, shows-bit, bit-drivers}
use Rattle.simulation.proofs.Runs.{length_run, run_take}
use Rattle.simulation.proofs.Writes.{constants}
use Rattle.evaluation.specs.Inner.Walk.{reading, worked_over, stepped_over}

module _ (holds : List Hold) where
  -- A held value is read as it is.
  held-read : (hs : List Hold) (x s v : ℕ) → read_back (held hs x s v) ≡ held hs x s (read_back v)
  unfolding held
  held-read [] x s v = refl
  held-read (h ∷ hs) x s v = go (eqb h.line x && eqb (site_of h) s) (held-read hs x s v)
    where
      go : (b : Bool) → read_back (held hs x s v) ≡ held hs x s (read_back v) →
          read_back (cond b (level_of h) (held hs x s v)) ≡ cond b (level_of h) (held hs x s (read_back v))
      go true e = read-bit (level_of h) (level-bit h)
      go false e = e

  -- What a driver makes of the bytes is what it makes of the values.
  drive-read : (vs : List ℕ) (d : Driver ℕ) → drive (reading holds) vs d ≡ drive (holding holds) (map read_back vs) d
  unfolding drive
  drive-read vs (rail a) = refl
  drive-read vs (gate g) =
      let same : (s i : ℕ) → read_back (held holds (length vs) s (get_or vs i 0)) ≡ held holds (length (map read_back vs)) s (get_or (map read_back vs) i 0) =
      λ s i. held-read holds (length vs) s (get_or vs i 0)
      ∙ ap₂ (λ (x v : ℕ). held holds x s v) (sym (length-map vs read_back)) (sym (get_or-map read_back vs i 0)) in
      ap₂ (gate_of g.kind) (same 1 g.left) (same 2 g.right)

  -- The bytes stay, and behind them come the values of the lines that are worked out.
  pub bytes-worked : (ds : List (Driver ℕ)) → Every BitDriver ds → (vs : List ℕ) →
      work_out (reading holds) ds vs ≡ vs ++ drop (length vs) (work_out (holding holds) ds (map read_back vs))
  unfolding work_out
  bytes-worked [] b vs =
      sym (ap (◌++◌ vs) (ap (λ (k : ℕ). drop k (map read_back vs)) (sym (length-map vs read_back)) ∙ drop-length (map read_back vs)) ∙ append-nil vs)
  bytes-worked (d ∷ ds) b vs =
      let us = map read_back vs in
      let v = held holds (length vs) 0 (drive (reading holds) vs d) in
      let w = held holds (length us) 0 (drive (holding holds) us d) in
      let whole = work_out (holding holds) ds (us ++ (w ∷ [])) in
      let size : length us ≡ length vs = length-map vs read_back in
      let same : v ≡ w = ap₂ (λ (x y : ℕ). held holds x 0 y) (sym size) (drive-read vs d) in
      let read : read_back v ≡ w = ap read_back same ∙ read-bit w (shows-bit holds us (reads-bits vs) d b.0) in
      let mapped : map read_back (vs ++ (v ∷ [])) ≡ us ++ (w ∷ []) = map-append read_back vs (v ∷ []) ∙ ap (λ (x : ℕ). us ++ (x ∷ [])) read in
      let longer : length (vs ++ (v ∷ [])) ≡ length (us ++ (w ∷ [])) =
      omega (arith, length-append vs (v ∷ []), length-append us (w ∷ [])) in
      let rest = drop (length (us ++ (w ∷ []))) whole in
      let parts : whole ≡ us ++ (w ∷ rest) =
      sym (take-append-drop (length (us ++ (w ∷ []))) whole)
      ∙ ap (λ (l : List ℕ). l ++ rest) (run_take (holding holds) ds (us ++ (w ∷ []))) ∙ append_assoc us (w ∷ []) rest in
      let front : drop (length vs) whole ≡ w ∷ rest =
      ap (λ (k : ℕ). drop k whole) (sym size) ∙ ap (drop (length us)) parts ∙ drop-append_seam us (w ∷ rest) in
      bytes-worked ds b.1 (vs ++ (v ∷ []))
      ∙ ap (λ (l : List ℕ). (vs ++ (v ∷ [])) ++ drop (length (vs ++ (v ∷ []))) (work_out (holding holds) ds l)) mapped
      ∙ ap (λ (k : ℕ). (vs ++ (v ∷ [])) ++ drop k whole) longer
      ∙ append_assoc vs (v ∷ []) rest
      ∙ ap (◌++◌ vs) (ap (λ (x : ℕ). x ∷ rest) same ∙ sym front)

-- A buffer whose constants are set and whose lines from one to another are then worked out.
pub stepped-over : (holds : List Hold) (rails gates : List ℕ) (from to : ℕ) (buffer : List ℕ) → ((i : ℕ) → get_or rails i 0 ≤ 1) →
    2 ≤ from → from ≤ length buffer → {ws : List ℕ} → ws ≡ worked_over holds rails gates from to (set (set buffer 0 0) 1 1) →
    ws ≡ stepped_over holds rails gates from to buffer
stepped-over holds rails gates from to buffer bits low room e =
    let cs : List ℕ = 0 ∷ 1 ∷ [] in
    let before = lines_before from buffer in
    let ds = take (to - from) (drop (from - 2) (drivers_of rails (gates_of gates))) in
    let sure = every_take BitDriver (to - from) _ (every_drop BitDriver (from - 2) _ (bit-drivers rails (gates_of gates) bits)) in
    let size : length before ≡ from = length-take-le from (over cs buffer) (simp length-drop (omega arith)) in
    let worked : work_out (reading holds) ds before ≡ before ++ drop from (work_out (holding holds) ds (map read_back before)) =
    bytes-worked holds ds sure before ∙ ap (λ (k : ℕ). before ++ drop k (work_out (holding holds) ds (map read_back before))) size in
    e ∙ ap (λ (b : List ℕ). over (work_out (reading holds) ds (take from b)) b) (constants buffer (omega arith))
    ∙ over-over (work_out (reading holds) ds before) buffer cs (omega (arith, length_run (reading holds) ds before))
    ∙ ap (λ (us : List ℕ). over us buffer) worked
