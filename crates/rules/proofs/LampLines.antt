-- The gates of the lamp: their sources lie below them, and each round of the cut makes them two deeper.
use Prim.Native.Nat.{ℕ, suc, ◌+◌, ◌*◌, ◌≤◌}
use native.Mathlib.Omega.{arith}
use mathlib.Core.Path.{◌≡◌}
use mathlib.Core.List.{List}
use lib.ListN.{length}
use Rattle.netlist.specs.declared.Pair.{Pair}
use Rattle.rules.specs.Make.{gate}
use Rattle.rules.specs.Blocks.{Cut, size}
use Rattle.rules.specs.Lamp.{join, no_pair, join_tree}
use Rattle.rules.proofs.Every.{Every}
use Rattle.rules.proofs.Heights.{height}
use Rattle.rules.proofs.Lays.{Lies, Lays, lays-return, lays-bind, lays-gate, lays-tree}
use Rattle.rules.proofs.Lines.{lies-on}

-- A pair whose lines have S, lie below line next and have at most depth e.
abbrev pub PairLies : (ℕ → Type 0) → (ℕ → ℕ) → ℕ → ℕ → Pair → Type 0
PairLies S δ e next p = Lies S δ e next p.on × Lies S δ e next p.off

module _ {S : ℕ → Type 0} {δ : ℕ → ℕ} where
  pub pair-on : (e f n k : ℕ) (p : Pair) → e ≤ f → n ≤ k → PairLies S δ e n p → PairLies S δ f k p
  pair-on e f n k p deeper later (on, off) = (lies-on deeper later on, lies-on deeper later off)

  module _ {most : ℕ} where
    -- A gate of lines that lay below an earlier line.
    later-gate : {e n next : ℕ} (kind : ℕ) {a b : ℕ} → kind ≤ 1 → n ≤ next → Lies S δ e n a → Lies S δ e n b → suc e ≤ most →
        Lays S δ most (gate kind a b) next (λ end x. Lies S δ (suc e) end x)
    later-gate kind known later la lb fits =
        lays-gate known (lies-on (omega arith) later la) (lies-on (omega arith) later lb) fits

    join-lays : (e next : ℕ) (a b : Pair) → PairLies S δ e next a → PairLies S δ e next b → e + 2 ≤ most →
        Lays S δ most (join a b) next (λ end p. PairLies S δ (e + 2) end p)
    unfolding join
    join-lays e next a b (on, off) (on', off') fits =
        lays-bind (later-gate 0 (omega arith) (omega arith) on on' (omega arith)) (λ n₁ x h₁ lx.
        lays-bind (later-gate 0 (omega arith) h₁ off off' (omega arith)) (λ n₂ y h₂ ly.
        lays-bind (later-gate 1 (omega arith) (omega arith) (lies-on (omega arith) h₂ lx) ly (omega arith)) (λ n₃ z h₃ lz.
        lays-bind (later-gate 0 (omega arith) (omega arith) on off' (omega arith)) (λ n₄ u h₄ lu.
        lays-bind (later-gate 0 (omega arith) (omega arith) off on' (omega arith)) (λ n₅ w h₅ lw.
        lays-bind (later-gate 1 (omega arith) (omega arith) (lies-on (omega arith) h₅ lu) lw (omega arith)) (λ n₆ v h₆ lv.
        lays-return (lies-on (omega arith) (omega arith) lz, lies-on (omega arith) (omega arith) lv)))))))

    pub lamp-lays : {e next : ℕ} (c : Cut) {ps : List Pair} → Every (PairLies S δ e next) ps → length ps ≡ size c →
        e + height c * 2 ≤ most → Lays S δ most (join_tree c ps) next (λ end p. PairLies S δ (e + height c * 2) end p)
    lamp-lays = lays-tree (PairLies S δ) pair-on no_pair join 2 join-lays
