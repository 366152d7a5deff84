-- Different tables have different boards: diagrams that pass questions 5 to 7 and have one board are the same.
use Prim.Native.Nat.{ℕ, ◌≤◌, ◌<◌}
use native.Mathlib.Omega.{arith}
use mathlib.Core.Path.{◌≡◌, sym, ap, ap₂, ◌∙◌}
use mathlib.Core.List.{[]}
use lib.ListN.{length, get_or}
use Rattle.diagram.specs.declared.Diagram.{Diagram}
use Rattle.diagram.specs.Diagram.{Input, value_at}
use Rattle.diagram.proofs.Unique.{Reduced, Same, unique}
use Rattle.netlist.specs.declared.Pair.{Pair}
use Rattle.netlist.specs.Netlist.{Netlist}
use Rattle.rules.specs.Board.{board_of}
use Rattle.rules.proofs.Pairs.{pair, pairs-length, pairs-at}
use Rattle.rules.proofs.Models.{code_of}
use Rattle.rules.proofs.Values.{model-right}
use Rattle.rules.proofs.Wired.{board-wired}
use Rattle.rules.proofs.Held.{shown, run-model}

module _ (d e : Diagram) (one : board_of d ≡ board_of e) where
  pub same-contacts : d.contacts ≡ e.contacts
  unfolding board_of
  same-contacts = ap (λ (net : Netlist). net.contacts) one

  pub same-outputs : d.outputs ≡ e.outputs
  same-outputs =
      sym (pairs-length d) ∙ ap (λ (net : Netlist). length net.pairs) one ∙ pairs-length e

  same-pairs : (j : ℕ) → j < d.outputs → pair d j ≡ pair e j
  same-pairs j h =
      let none : Pair = record { on = 0; off = 0 } in
      sym (pairs-at d j none h) ∙ ap (λ (net : Netlist). get_or net.pairs j none) one
      ∙ pairs-at e j none (omega (arith, same-outputs))

  module _ (rd : Reduced d) (re : Reduced e) (some : 1 ≤ d.contacts) where
    same-values : (x : Input) (j : ℕ) → j < d.outputs → value_at d x j ≡ value_at e x j
    same-values x j h =
        let some' : 1 ≤ e.contacts = omega (arith, same-contacts) in
        sym (model-right d x _ (run-model _ (board-wired d some) x) rd.ranged some j h).0
        ∙ ap₂ (λ (net : Netlist) (p : Pair). shown net (code_of net x) [] p.on) one (same-pairs j h)
        ∙ (model-right e x _ (run-model _ (board-wired e some') x) re.ranged some' j (omega (arith, same-outputs))).0

    pub injective : Same d e
    injective = unique d e rd re same-contacts same-outputs same-values
