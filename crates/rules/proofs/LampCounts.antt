-- How many gates the lamp has: six for each join.
use Prim.Native.Nat.{ℕ, ◌+◌, ◌*◌, ◌-◌, ◌≤◌}
use native.Mathlib.Omega.{arith}
use mathlib.Core.Path.{◌≡◌, refl, ap, ◌∙◌}
use mathlib.Core.List.{List}
use lib.ListN.{length, length-append}
use Rattle.netlist.specs.declared.Pair.{Pair}
use Rattle.netlist.specs.Netlist.{Netlist, line_count}
use Rattle.rules.specs.Make.{◌>>=◌}
use Rattle.rules.specs.Blocks.{Cut, size, cut}
use Rattle.rules.specs.Lamp.{join, no_pair, join_tree, lamp_of, with_lamp}
use Rattle.rules.proofs.Counts.{Counts, weaken-count, tree-count}
use Rattle.rules.proofs.Cuts.{size-pos, size-cut}

join-count : (a b : Pair) → Counts (join a b) (λ k _. k ≡ 6)
unfolding join ◌>>=◌
join-count a b = record { from = λ next. refl }

pub lamp-count : (c : Cut) (ps : List Pair) → Counts (join_tree c ps) (λ k _. k ≡ 6 * (size c - 1))
lamp-count c ps = weaken-count (tree-count no_pair join 6 join-count c ps) (λ k p e. omega (arith, size-pos c))

module _ (net : Netlist) (some : 1 ≤ length net.pairs) where
  pub lamp-size : length (lamp_of net).0 ≡ 6 * (length net.pairs - 1)
  unfolding lamp_of
  lamp-size =
      (lamp-count (cut (length net.pairs)) net.pairs).from (line_count net)
      ∙ ap (λ (m : ℕ). 6 * (m - 1)) (size-cut (length net.pairs) some)

  pub lamp-gates : length (with_lamp net).gates ≡ length net.gates + 6 * (length net.pairs - 1)
  unfolding with_lamp
  lamp-gates = length-append net.gates (lamp_of net).0 ∙ ap (λ (k : ℕ). length net.gates + k) lamp-size
