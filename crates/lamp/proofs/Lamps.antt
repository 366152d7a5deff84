-- The lamp of a netlist is a code exactly if every pair is, at any rails, where no line of the lamp is held.
use Prim.Native.Nat.{ℕ, ◌*◌, ◌≤◌, ◌<◌}
use native.Mathlib.Omega.{arith}
use mathlib.Core.Path.{◌≡◌, ap₂, ◌∙◌}
use mathlib.Core.List.{List}
use lib.ListN.{length, get_or}
use Rattle.fields.specs.Bounded.{all}
use Rattle.fields.proofs.Every.{Every, every-weaken}
use Rattle.netlist.specs.declared.Hold.{Hold}
use Rattle.netlist.specs.Netlist.{Netlist, line_count}
use Rattle.netlist.proofs.Sound.{Wired, PairsWired}
use Rattle.simulation.specs.Run.{gate_of, held}
use Rattle.simulation.proofs.Monotone.{AllHeld, held-elsewhere}
use Rattle.rules.specs.Blocks.{cut}
use Rattle.rules.specs.Lamp.{no_pair, lamp_of, with_lamp}
use Rattle.rules.proofs.Cuts.{size-cut}
use Rattle.rules.proofs.Held.{shown, run-follows}
use Rattle.rules.proofs.Makes.{Each, each_right}
use Rattle.rules.proofs.Models as models
use Rattle.lamp.proofs.Laid.{lamp-wired}
use Rattle.lamp.proofs.Joins.{is_code, Follows, tree_code}

module _ (net : Netlist) (some : 1 ≤ length net.pairs) (wired : Wired net) (pairs : PairsWired net)
    (rails : List ℕ) (count : length rails ≡ 2 * net.contacts) (bits : (i : ℕ) → get_or rails i 0 ≤ 1)
    (holds : List Hold) (values : AllHeld (λ v. v ≤ 1) holds)
    (lines : Every (λ (h : Hold). h.line < line_count net) holds) where
  abbrev ν : ℕ → ℕ
  ν = shown (with_lamp net) rails holds

  -- No hold names a line that the lamp adds, so it shows what its gate makes.
  free : (y s v : ℕ) → line_count net ≤ y → held holds y s v ≡ v
  free y s v l =
      held-elsewhere holds y s v
      (every-weaken (λ (k : Hold). k.line < line_count net) (λ k. k.line ≡ y → ⊥) (λ k h e. omega arith) holds lines)

  follows : models.Follows (with_lamp net) rails ν (λ y made. line_count net ≤ y → ν y ≡ made)
  unfolding with_lamp
  follows =
      run-follows (with_lamp net) (lamp-wired net some pairs wired) rails holds count bits values
      (λ y made. line_count net ≤ y → ν y ≡ made) (λ y made _ e l. e ∙ free y 0 made l)
      (λ y kind a b _ _ e l. e ∙ free y 0 _ l ∙ ap₂ (gate_of kind) (free y 1 a l) (free y 2 b l))

  lamp-follows : Each (Follows ν) (line_count net) (lamp_of net).0
  unfolding with_lamp
  lamp-follows =
      record {
        has = λ i h.
            (each_right net.gates (lamp_of net).0 follows.gates).has i h (omega arith);
      }

  pub lamp-code : is_code ν (lamp_of net).1 ≡ all (length net.pairs) (λ j. is_code ν (get_or net.pairs j no_pair))
  unfolding lamp_of
  lamp-code =
      rw (size-cut (length net.pairs) some) at
      ((tree_code ν follows.bits (cut (length net.pairs)) net.pairs).result (line_count net) lamp-follows)
