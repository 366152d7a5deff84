-- In a run each line obeys what drives it: a rail shows its own value, and a gate whose sources lie below its own line what it
-- makes of their values.
use Prim.Native.Nat.{ℕ, ◌+◌, ◌*◌, ◌<◌}
use native.Mathlib.Nat.{add_assoc}
use native.Mathlib.Omega.{arith}
use mathlib.Core.Path.{◌≡◌, ◌∙◌}
use mathlib.Core.List.{List, [], ◌∷◌, ◌++◌, map}
use lib.ListN.{length, get_or, take, length-append, length-map, get_or-append, get_or-map}
use lib.Seq.{get_or-append-add, get_or-take, length-take-le}
use Rattle.netlist.specs.declared.Gate.{Gate}
use Rattle.netlist.specs.declared.Hold.{Hold}
use Rattle.netlist.specs.Netlist.{Netlist, gate_line, line_count}
use Rattle.netlist.proofs.Sound.{Wired}
use Rattle.simulation.specs.Run.{Driver, rail, gate, Rule, drive, work_out, gate_of, held, holding, values_of}
use Rattle.simulation.proofs.Runs.{length_run, run-first, run_at}

-- For any rule and any drivers before the gates.
module _ {A : Type 0} (r : Rule A) (ds : List (Driver A)) (gates : List Gate) (vs : List A) where
  pub rail-obeys : (i : ℕ) (a e : A) (d : Driver A) → i < length ds → get_or ds i d ≡ rail a →
      get_or (work_out r (ds ++ map gate gates) vs) (length vs + i) e ≡ r.shows (length vs + i) a
  unfolding drive
  rail-obeys i a e d h p =
      rw (get_or-append ds (map gate gates) d i h, p) at
      (run_at r (ds ++ map gate gates) vs i e d (omega (arith, length-append ds (map gate gates))))

  pub gate-obeys : (g : ℕ) (other : Gate) → g < length gates →
      let ws = work_out r (ds ++ map gate gates) vs in
      let x = length vs + length ds + g in
      let at = get_or gates g other in
      at.left < x → at.right < x →
      get_or ws x r.none ≡ r.shows x (r.op x at.kind (get_or ws at.left r.none) (get_or ws at.right r.none))
  unfolding drive
  gate-obeys g other h hl hr =
      let all : List (Driver A) = ds ++ map gate gates in
      let ws = work_out r all vs in
      let x = length vs + (length ds + g) in
      let at = get_or gates g other in
      let inside : length ds + g < length all = simp (length-append, length-map) (omega arith) in
      let its = get_or-append-add ds (map gate gates) g (gate other) ∙ get_or-map gate gates g other in
      let long : length (take x ws) ≡ x = length-take-le x ws (omega (arith, length_run r all vs)) in
      rw (add_assoc (length vs) (length ds) g)
      (rw (its, long, get_or-take x ws at.left r.none (omega arith), get_or-take x ws at.right r.none (omega arith)) at
      (run_at r all vs (length ds + g) r.none (gate other) inside))

-- The values vs of a netlist's lines at such rails under such holds.
pub record Obeys (net : Netlist) (rails : List ℕ) (holds : List Hold) (vs : List ℕ) : Type 0 where
  pub lines : length vs ≡ line_count net
  pub low : get_or vs 0 0 ≡ 0
  pub high : get_or vs 1 0 ≡ 1
  pub rail : (i : ℕ) → i < 2 * net.contacts → get_or vs (2 + i) 0 ≡ held holds (2 + i) 0 (get_or rails i 0)
  pub gate : (g : ℕ) (d : Gate) → g < length net.gates →
      let x = gate_line net.contacts + g in
      let at = get_or net.gates g d in
      get_or vs x 0
      ≡ held holds x 0 (gate_of at.kind (held holds x 1 (get_or vs at.left 0)) (held holds x 2 (get_or vs at.right 0)))

pub obeys : (net : Netlist) (rails : List ℕ) (holds : List Hold) → length rails ≡ 2 * net.contacts → Wired net →
    Obeys net rails holds (values_of net rails holds)
unfolding values_of
obeys net rails holds l w =
    let r = holding holds in
    let gs = net.gates in
    let ds = map {B = Driver ℕ} rail rails in
    let all : List (Driver ℕ) = ds ++ map gate gs in
    let count : length ds ≡ 2 * net.contacts = length-map rails rail ∙ l in
    record {
      lines = length_run r all (0 ∷ 1 ∷ []) ∙ simp (length-append, length-map) (omega arith);
      low = run-first r all (0 ∷ 1 ∷ []) 0 0 (omega arith);
      high = run-first r all (0 ∷ 1 ∷ []) 1 0 (omega arith);
      rail = λ i h. rail-obeys r ds gs (0 ∷ 1 ∷ []) i (get_or rails i 0) 0 (rail 0) (omega arith) (get_or-map rail rails i 0);
      gate = λ g d h.
          let o = w g d h in
          rw (← count) (gate-obeys r ds gs (0 ∷ 1 ∷ []) g d h (omega arith) (omega arith));
    }
