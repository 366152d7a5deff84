-- A netlist's file, and line values behind it: how these are worked out, written and read again; what probe answers by what the search
-- found.
use Prim.Native.Nat.{ℕ, ◌+◌, ◌*◌, ◌-◌, ◌/◌, ◌≤◌}
use native.Mathlib.Omega.{arith}
use mathlib.Core.Path.{◌≡◌, refl, sym, ap, ap₂, ◌∙◌}
use mathlib.Core.Bool.{Bool, true, false, cond}
use mathlib.Core.List.{List, [], ◌∷◌, ◌++◌, append_assoc, append-nil}
use Rattle.std.proofs.Common.{Some, None}
use lib.ListN.{length, take, drop, length-append, length-map, length-drop}
use lib.Seq.{take_at, drop_at, drop-drop, take-length, drop-length}
use Rattle.diagram.specs.Diagram.{input_of}
use Rattle.netlist.specs.declared.Hold.{Hold}
use Rattle.netlist.specs.Netlist.{Netlist, gate_line, gates_of, hold_at, holds_of, net_of}
use Rattle.simulation.specs.Run.{holding, drivers_of, values_of}
use Rattle.files.specs.Room.{over}
use Rattle.evaluation.specs.Inner.Walk.{Ready, stepped_over}
use Rattle.netlist.proofs.Lists.{length-gates}
use Rattle.simulation.proofs.Runs.{length_run}
use Rattle.rules.specs.Code.{code_rails}
use Rattle.simulation.proofs.Whole.{whole-lines}
use Rattle.simulation.proofs.Worked.{length-drivers}
use Rattle.rules.proofs.Codes.{code-length, code-bits}
use Rattle.faults.specs.Betrayal.{stuck_at, some_no_code, is_seen, smallest_input}
use Rattle.search.specs.Inner.Found.{found_in}
use Rattle.stuck.specs.Service.{Answer, Probing, found_at, hidden_probe, probing_with}
use Rattle.stuck.specs.Inner.Findings.{RunReady}
use Rattle.stuck.proofs.OneHold.{one-hold}
use Rattle.stuck.proofs.Probes.{betrayed-there}

module _ (file values buffer : List ℕ) where
  abbrev rest : List ℕ
  rest = drop (length file) buffer

  -- Values written over the part of a buffer that lies behind the file.
  pub written_behind : (a k : ℕ) {xs ys : List ℕ} → length file ≡ a → k ≡ length xs - a → a ≤ length buffer → length xs ≡ length buffer →
      xs ≡ over file buffer → ys ≡ over values (take k (drop a xs)) →
      take a xs ++ (ys ++ drop k (drop a xs)) ≡ over (file ++ values) buffer
  written_behind a k {xs} {ys} l m h same e d =
      let front : take a xs ≡ file = ap (take a) e ∙ take_at file rest a l in
      let behind : drop a xs ≡ rest = ap (drop a) e ∙ drop_at file rest a l in
      let whole : k ≡ length rest = omega (arith, length-drop (length file) buffer) in
      rw (front, d, behind, whole, take-length rest, drop-length rest, append-nil, drop-drop, ← append_assoc, length-append)

  pub read_behind : (a k : ℕ) → length file ≡ a → length values ≡ k → take k (drop a (over (file ++ values) buffer)) ≡ values
  read_behind a k l m =
      let past = drop (length (file ++ values)) buffer in
      rw (append_assoc file values past, drop_at file (values ++ past) a l, take_at values past k m)

module _ (n : ℕ) (gates hold : List ℕ) where
  pub ready_at : {room : ℕ} (a : ℕ) {rails : List ℕ} → RunReady n gates hold room → rails ≡ code_rails n (input_of a) →
      Ready gates rails hold room
  ready_at a {rails} s e =
      let l : length rails ≡ 2 * n = ap length e ∙ code-length (input_of a) n in
      record {
        few = omega arith;
        many = omega arith;
        fits = omega arith;
        bits = rw e (code-bits (input_of a) n);
        wired = rw l s.wired;
        sorted = rw l s.held;
      }

  pub shown-at : {room : ℕ} (a : ℕ) {rails : List ℕ} {end : ℕ} → RunReady n gates hold room → rails ≡ code_rails n (input_of a) →
      end ≡ gate_line n + length gates / 5 → (lines : List ℕ) →
      stepped_over (holds_of hold) rails gates 2 end lines ≡ over (stuck_at (net_of n gates []) (hold_at hold 0) a) lines
  unfolding stuck_at
  shown-at a {rails} s e last lines =
      let l : length rails ≡ 2 * n = ap length e ∙ code-length (input_of a) n in
      let size = length-drivers rails (gates_of gates) in
      ap (λ (k : ℕ). stepped_over (holds_of hold) rails gates 2 k lines) last
      ∙ whole-lines (net_of n gates []) rails hold lines (gate_line n + length gates / 5 - 2) (omega (arith, length-gates gates))
      ∙ rw (one-hold hold s.one, e)

-- Line values go by the gates alone.
pub lines_same : (n : ℕ) (gates pairs : List ℕ) (h : Hold) (a : ℕ) → stuck_at (net_of n gates []) h a ≡ stuck_at (net_of n gates pairs) h a
unfolding stuck_at values_of
lines_same n gates pairs h a = refl

pub length-lines : (n : ℕ) (gates pairs : List ℕ) (h : Hold) (a : ℕ) →
    length (stuck_at (net_of n gates pairs) h a) ≡ gate_line n + length gates / 5
unfolding stuck_at values_of
length-lines n gates pairs h a =
    length_run (holding (h ∷ [])) (drivers_of (code_rails n (input_of a)) (gates_of gates)) (0 ∷ 1 ∷ [])
    ∙ simp (length-append, length-map, length-gates, code-length) (omega arith)

-- What the search found.
module _ (net : Netlist) (h : Hold) where
  found-at : (a : ℕ) → Some a ≡ found_in net h → (is_seen net h ≡ true) × (a ≡ smallest_input net h)
  found-at a = go (is_seen net h)
    where
      go : (b : Bool) → Some a ≡ cond b (Some (smallest_input net h)) None → (b ≡ true) × (a ≡ smallest_input net h)
      go true e = (refl, cc)
      go false e = absurd (let z : ◌≡◌ {A = ℕ} 0 1 = cc in omega arith)

  found_none : None ≡ found_in net h → is_seen net h ≡ false
  found_none = go (is_seen net h)
    where
      go : (b : Bool) → None ≡ cond b (Some (smallest_input net h)) None → b ≡ false
      go true e = absurd (let z : ◌≡◌ {A = ℕ} 0 1 = cc in omega arith)
      go false e = refl

  pub betrayed-at : (a : ℕ) → Some a ≡ found_in net h → some_no_code net.pairs (stuck_at net h a) ≡ true
  betrayed-at a e =
      let (seen, least) = found-at a e in
      rw least (betrayed-there net h seen)

  module _ (file buffer : List ℕ) where
    -- What is answered and left, by whether some code input betrays the hold and the smallest that does.
    abbrev leaves : Bool → ℕ → Probing Answer
    leaves seen smallest =
        let input = cond seen smallest 0 in
        let values = stuck_at net h input in
        record { answer = cond seen (found_at net.pairs input values) hidden_probe; buffer = over (file ++ values) buffer }

    pub answer-seen : (a : ℕ) {r : Answer} {after : List ℕ} → Some a ≡ found_in net h → r ≡ found_at net.pairs a (stuck_at net h a) →
        after ≡ over (file ++ stuck_at net h a) buffer → record { answer = r; buffer = after } ≡ probing_with file net h buffer
    answer-seen a e er ea =
        let (seen, least) = found-at a e in
        (λ i. record { answer = er i; buffer = ea i }) ∙ ap₂ leaves (sym seen) least

    pub answer-hidden : {r : Answer} {after : List ℕ} → None ≡ found_in net h → r ≡ hidden_probe →
        after ≡ over (file ++ stuck_at net h 0) buffer → record { answer = r; buffer = after } ≡ probing_with file net h buffer
    answer-hidden e er ea =
        (λ i. record { answer = er i; buffer = ea i }) ∙ ap (λ (b : Bool). leaves b (smallest_input net h)) (sym (found_none e))
