-- What a netlist's lines show in a run: each what its driver makes, holds going before it.
use Prim.Native.Nat.{ℕ, zero, suc, ◌+◌, ◌*◌, ◌≤◌}
use native.Mathlib.Omega.{arith}
use mathlib.Core.Path.{◌≡◌}
use mathlib.Core.List.{List, []}
use lib.ListN.{length, get_or}
use Rattle.diagram.specs.Diagram.{Input}
use Rattle.fields.proofs.Every.{every-weaken}
use Rattle.netlist.specs.declared.Hold.{Hold}
use Rattle.netlist.specs.Netlist.{Netlist, gate_line, level_of}
use Rattle.netlist.proofs.Sound.{Wired}
use Rattle.simulation.specs.Run.{gate_of, held, values_of}
use Rattle.simulation.proofs.Monotone.{AllHeld, held_by, gate-mono, gate-bit, lines-bits}
use Rattle.simulation.proofs.Obeys.{obeys}
use Rattle.rules.proofs.Makes.{any_gate}
use Rattle.rules.proofs.Codes.{code-length, code-bits}
use Rattle.rules.proofs.Models.{Follows, code_of, Model, Leans, OneSided}

-- What line y shows.
abbrev pub shown : Netlist → List ℕ → List Hold → ℕ → ℕ
shown net rails holds y = get_or (values_of net rails holds) y 0

-- What a site has of v where all holds are at b.
held-leans : (b : ℕ) (holds : List Hold) → AllHeld (λ v. v ≡ b) holds → (y s v : ℕ) → v ≤ 1 → Leans b v (held holds y s v)
held-leans zero holds all y s v h = held_by (λ w. w ≤ v) (λ w. w ≡ 0) (λ w e. omega arith) holds all y s v (omega arith)
held-leans (suc zero) holds all y s v h = held_by (λ w. v ≤ w) (λ w. w ≡ 1) (λ w e. omega arith) holds all y s v (omega arith)
held-leans (suc (suc b)) holds all y s v h = held_by (λ w. v ≤ w) (λ w. w ≡ suc (suc b)) (λ w e. omega arith) holds all y s v (omega arith)

-- A gate whose pins lean one way makes what leans this way.
gate-leans : (b kind l r l' r' v : ℕ) → Leans b l l' → Leans b r r' → Leans b (gate_of kind l' r') v → Leans b (gate_of kind l r) v
gate-leans zero kind l r l' r' v p q e = omega (arith, gate-mono kind l' r' l r p q)
gate-leans (suc b) kind l r l' r' v p q e = omega (arith, gate-mono kind l r l' r' p q)

module _ (net : Netlist) (wired : Wired net) where
  -- At any rails: what a line shows, and what its gate's pins have.
  module _ (rails : List ℕ) (holds : List Hold) (l : length rails ≡ 2 * net.contacts) (bits : (i : ℕ) → get_or rails i 0 ≤ 1)
      (all : AllHeld (λ v. v ≤ 1) holds) (S : ℕ → ℕ → Type 0) where
    abbrev ν : ℕ → ℕ
    ν = shown net rails holds

    pub run-follows : ((y made : ℕ) → made ≤ 1 → ν y ≡ held holds y 0 made → S y made) →
        ((y kind a b : ℕ) → a ≤ 1 → b ≤ 1 → ν y ≡ held holds y 0 (gate_of kind (held holds y 1 a) (held holds y 2 b)) →
        S y (gate_of kind a b)) →
        Follows net rails ν S
    run-follows on-rail on-gate =
        let rules = obeys net rails holds l wired in
        let bit = lines-bits net rails holds bits all in
        record {
          low = rules.low;
          high = rules.high;
          bits = bit;
          rail = λ i h. on-rail (2 + i) (get_or rails i 0) (bits i) (rules.rail i h);
          gates = record {
            has = λ g h.
                let at = get_or net.gates g any_gate in
                on-gate (gate_line net.contacts + g) at.kind (ν at.left) (ν at.right) (bit at.left) (bit at.right)
                (rules.gate g any_gate h);
          };
        }

  -- At a code input.
  module _ (x : Input) where
    -- With holds all at b.
    pub one-way-run : (b : ℕ) → b ≤ 1 → (holds : List Hold) → AllHeld (λ v. v ≡ b) holds → OneSided net x b (shown net (code_of net x) holds)
    one-way-run b bound holds all =
        let few = every-weaken (λ (h : Hold). level_of h ≡ b) (λ h. level_of h ≤ 1) (λ h e. omega arith) holds all in
        let leans = held-leans b holds all in
        let bit : (y s v : ℕ) → v ≤ 1 → held holds y s v ≤ 1 = λ y s v. held_by (λ w. w ≤ 1) (λ w. w ≤ 1) (λ w e. e) holds few y s v in
        run-follows (code_of net x) holds (code-length x net.contacts) (code-bits x net.contacts) few
        (λ y made. Leans b made (shown net (code_of net x) holds y))
        (λ y made h e. rw e (leans y 0 made h))
        (λ y kind a c ha hc e.
        gate-leans b kind a c _ _ _ (leans y 1 a ha) (leans y 2 c hc)
        (rw e (leans y 0 _ (gate-bit kind _ _ (bit y 1 a ha) (bit y 2 c hc)))))

    -- With nothing held the run is a model.
    pub run-model : Model net x (shown net (code_of net x) [])
    unfolding held
    run-model =
        run-follows (code_of net x) [] (code-length x net.contacts) (code-bits x net.contacts) tt
        (λ y made. shown net (code_of net x) [] y ≡ made) (λ y made h e. e) (λ y kind a c ha hc e. e)

    -- A line shows what holds make of something.
    pub line-shows : (holds : List Hold) → AllHeld (λ v. v ≤ 1) holds →
        Follows net (code_of net x) (shown net (code_of net x) holds)
        (λ y _. (made : ℕ) × (shown net (code_of net x) holds y ≡ held holds y 0 made))
    line-shows holds all =
        run-follows (code_of net x) holds (code-length x net.contacts) (code-bits x net.contacts) all
        (λ y _. (made : ℕ) × (shown net (code_of net x) holds y ≡ held holds y 0 made)) (λ y made h e. (made, e))
        (λ y kind a c ha hc e. (_, e))
