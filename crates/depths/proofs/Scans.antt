-- The depths of lines, worked out in one scan of the gates.
use Prim.Native.Nat.{ℕ, zero, suc, ◌+◌, ◌*◌, ◌/◌, ◌≤◌, ◌<◌, max}
use native.Mathlib.Nat.{add-zero}
use native.Mathlib.Numerals.{add-one}
use native.Mathlib.Omega.{arith}
use mathlib.Core.Path.{◌≡◌, refl, sym, ap, ap₂, ◌∙◌}
use mathlib.Core.List.{List, [], ◌∷◌, ◌++◌, map, map-append}
use lib.ListN.{length, get_or, take, set, replicate}
use lib.Seq.{take-suc-set, get_or-take}
use Rattle.netlist.specs.declared.Gate.{Gate}
use Rattle.netlist.specs.Netlist.{gate_at, gates_of, net_with}
use Rattle.fields.specs.Bounded.{listed}
use Rattle.simulation.specs.Run.{Driver, gate, drive, work_out}
use Rattle.fields.proofs.Listed.{listed_more}
use Rattle.simulation.proofs.Runs.{run_more}
use Rattle.rules.proofs.Depths.{largest-at}
use Rattle.rules.specs.Board.{largest, depth_rule, depths_of, depth_of}
use Rattle.depths.specs.Inner.Depths.{depths_from, SourcesBelow}

largest-more : (xs : List ℕ) (y : ℕ) → largest (xs ++ (y ∷ [])) ≡ max (largest xs) y
largest-more [] y = omega arith
largest-more (x ∷ xs) y = omega (arith, largest-more xs y)

largest-zeros : (n : ℕ) → largest (replicate n 0) ≡ 0
largest-zeros zero = refl
largest-zeros (suc n) = omega (arith, largest-zeros n)

-- The depth of a gate, given those of the lines before it.
abbrev pub deeper : List ℕ → Gate → ℕ
deeper ws g = suc (max (get_or ws g.left 0) (get_or ws g.right 0))

module _ (gates : List ℕ) (first : ℕ) where
  from-none : depths_from gates first 0 ≡ replicate first 0
  unfolding depths_from listed work_out
  from-none = refl

  from_more : (g : ℕ) → depths_from gates first (g + 1) ≡ depths_from gates first g ++ (deeper (depths_from gates first g) (gate_at gates g) ∷ [])
  unfolding depths_from drive
  from_more g =
      ap (λ (ds : List (Driver ℕ)). work_out depth_rule ds (replicate first 0))
      (ap (map gate) (listed_more (gate_at gates) g) ∙ map-append gate (listed (gate_at gates) g 0) (gate_at gates g ∷ []))
      ∙ run_more depth_rule (map gate (listed (gate_at gates) g 0)) (gate (gate_at gates g)) (replicate first 0)

-- The depth of gate g, given the depths of the lines below its own.
module _ (gates : List ℕ) (g : ℕ) {first count : ℕ} (s : SourcesBelow gates first count) (h : g < count) where
  pub gate-depth : {m : ℕ} (depths : List ℕ) → m ≡ max (get_or depths (gate_at gates g).left 0) (get_or depths (gate_at gates g).right 0) →
      m + 1 ≡ deeper (take (first + g) depths) (gate_at gates g)
  gate-depth {m} depths e =
      let left = get_or-take (first + g) depths (gate_at gates g).left 0 (s.at g h).0 in
      let right = get_or-take (first + g) depths (gate_at gates g).right 0 (s.at g h).1 in
      add-one m ∙ ap suc (e ∙ ap₂ max (sym left) (sym right))

-- What holds after the first gates: their depths are known, and the largest.
pub record Scanned (gates : List ℕ) (first g : ℕ) (depths : List ℕ) (deepest : ℕ) : Type 0 where
  pub known : take (first + g) depths ≡ depths_from gates first g
  pub top : deepest ≡ largest (depths_from gates first g)
  pub few : deepest ≤ g

pub scan-none : (gates depths : List ℕ) (first : ℕ) → take first depths ≡ replicate first 0 → Scanned gates first 0 depths 0
scan-none gates depths first e =
    record {
      known = rw (add-zero first) (e ∙ sym (from-none gates first));
      top = sym (ap largest (from-none gates first) ∙ largest-zeros first);
      few = omega arith;
    }

module _ {gates : List ℕ} {first g : ℕ} {depths : List ℕ} {deepest : ℕ} (s : Scanned gates first g depths deepest) where
  scan-few : (line : ℕ) → get_or (take (first + g) depths) line 0 ≤ g
  scan-few line = rw s.known (omega (arith, largest-at (depths_from gates first g) line, s.top, s.few))

  pub scan-low : (x : ℕ) → x ≡ deeper (take (first + g) depths) (gate_at gates g) → x ≤ g + 1
  scan-low x e = omega (arith, e, scan-few (gate_at gates g).left, scan-few (gate_at gates g).right)

  pub scan-more : (x next : ℕ) → first + g < length depths → x ≡ deeper (take (first + g) depths) (gate_at gates g) →
      next ≡ max deepest x → Scanned gates first (g + 1) (set depths (first + g) x) next
  scan-more x next room e m =
      let more = from_more gates first g in
      let depth : x ≡ deeper (depths_from gates first g) (gate_at gates g) = rw s.known at e in
      let place : first + (g + 1) ≡ suc (first + g) = omega arith in
      let left = scan-few (gate_at gates g).left in
      let right = scan-few (gate_at gates g).right in
      record {
        known =
            rw place
            (take-suc-set depths (first + g) x room
            ∙ ap₂ (λ (ws : List ℕ) (y : ℕ). ws ++ (y ∷ [])) s.known depth
            ∙ sym more);
        top = m ∙ ap₂ max s.top depth ∙ sym (ap largest more ∙ largest-more (depths_from gates first g) _);
        few = omega (arith, s.few);
      }

pub depth-from : (gates : List ℕ) (n : ℕ) →
    largest (depths_from gates (2 + 2 * n) (length gates / 5)) ≡ depth_of (net_with n (gates_of gates) [] [])
unfolding depth_of depths_of depths_from gates_of
depth-from gates n = refl

pub zeros-taken : (k n : ℕ) → k ≤ n → take k (replicate {A = ℕ} n 0) ≡ replicate k 0
zeros-taken zero n h = refl
zeros-taken (suc k) zero h = absurd (omega arith)
zeros-taken (suc k) (suc n) h = ap (◌∷◌ 0) (zeros-taken k n (omega arith))
