-- The gates, outputs and holds that bytes name: how many there are, and which stands where.
use native.Mathlib.Omega.{arith}
use Prim.Native.Nat.{ℕ, ◌/◌, ◌<◌}
use mathlib.Core.Path.{◌≡◌, ap, ◌∙◌}
use mathlib.Core.List.{List}
use lib.ListN.{length, get_or}
use Rattle.netlist.specs.declared.Gate.{Gate}
use Rattle.netlist.specs.declared.Pair.{Pair}
use Rattle.netlist.specs.declared.Hold.{Hold}
use Rattle.netlist.specs.Netlist.{gate_at, pair_at, hold_at, gates_of, pairs_of, holds_of}
use Rattle.fields.proofs.Listed.{length-listed, get_or-listed}

module _ (v : List ℕ) where
  pub length-gates : length (gates_of v) ≡ length v / 5
  unfolding gates_of
  length-gates = length-listed (gate_at v) (length v / 5) 0

  pub get_or-gates : (g : ℕ) (d : Gate) → g < length v / 5 → get_or (gates_of v) g d ≡ gate_at v g
  unfolding gates_of
  get_or-gates g d h = get_or-listed (gate_at v) (length v / 5) 0 g d h ∙ ap (gate_at v) (omega arith)

  pub length_pairs : length (pairs_of v) ≡ length v / 4
  unfolding pairs_of
  length_pairs = length-listed (pair_at v) (length v / 4) 0

  pub get_or-pairs : (j : ℕ) (d : Pair) → j < length v / 4 → get_or (pairs_of v) j d ≡ pair_at v j
  unfolding pairs_of
  get_or-pairs j d h = get_or-listed (pair_at v) (length v / 4) 0 j d h ∙ ap (pair_at v) (omega arith)

  pub length-holds : length (holds_of v) ≡ length v / 3
  unfolding holds_of
  length-holds = length-listed (hold_at v) (length v / 3) 0

  pub get_or-holds : (i : ℕ) (d : Hold) → i < length v / 3 → get_or (holds_of v) i d ≡ hold_at v i
  unfolding holds_of
  get_or-holds i d h = get_or-listed (hold_at v) (length v / 3) 0 i d h ∙ ap (hold_at v) (omega arith)
