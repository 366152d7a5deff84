-- A join of two pairs is a code exactly if both are, and so is a tree of joins.
use Prim.Native.Nat.{ℕ, zero, suc, min, max, ◌≤◌}
use native.Mathlib.Decide.{ℕ_discrete}
use native.Mathlib.Omega.{arith}
use mathlib.Core.Path.{◌≡◌, refl, sym, ap, ap₂, ◌∙◌}
use mathlib.Core.Bool.{Bool, ◌&&◌, not, and-false}
use mathlib.Core.List.{List}
use borrow.Author.Tests.{eq-eqb, ne_eqb}
use lib.Dec.{eqb}
use lib.ListN.{get_or}
use lib.Seq.{get_or-take, get_or-drop}
use Rattle.fields.specs.Bounded.{all}
use Rattle.fields.proofs.Bounded.{all-agree, all-add}
use Rattle.netlist.specs.declared.Gate.{Gate}
use Rattle.netlist.specs.declared.Pair.{Pair}
use Rattle.simulation.specs.Run.{gate_of}
use Rattle.rules.specs.Make.{gate}
use Rattle.rules.specs.Blocks.{Cut, size}
use Rattle.rules.specs.Lamp.{join, no_pair, join_tree}
use Rattle.rules.proofs.Makes.{Ok, ok-return, ok-bind, ok-weaken, ok-gate, ok-tree}

-- Two pairs of bits, each of which differ, join to bits that differ.
both-differ : (a a' b b' : ℕ) → a ≤ 1 → a' ≤ 1 → b ≤ 1 → b' ≤ 1 → (a ≡ a' → ⊥) → (b ≡ b' → ⊥) →
    max (min a b) (min a' b') ≡ max (min a b') (min a' b) → ⊥
both-differ zero a' zero b' ha ha' hb hb' p q =
    let e : a' ≡ 1 = omega arith in let f : b' ≡ 1 = omega arith in rw (e, f) (λ z. omega arith)
both-differ zero a' (suc b) b' ha ha' hb hb' p q =
    let e : a' ≡ 1 = omega arith in
    let f : b' ≡ 0 = omega arith in
    let g : b ≡ 0 = omega arith in
    rw (e, f, g) (λ z. omega arith)
both-differ (suc a) a' zero b' ha ha' hb hb' p q =
    let e : a' ≡ 0 = omega arith in
    let f : b' ≡ 1 = omega arith in
    let g : a ≡ 0 = omega arith in
    rw (e, f, g) (λ z. omega arith)
both-differ (suc a) a' (suc b) b' ha ha' hb hb' p q =
    let e : a' ≡ 0 = omega arith in
    let f : b' ≡ 0 = omega arith in
    let g : a ≡ 0 = omega arith in
    let h : b ≡ 0 = omega arith in
    rw (e, f, g, h) (λ z. omega arith)

code-both : (a a' b b' : ℕ) → a ≤ 1 → a' ≤ 1 → b ≤ 1 → b' ≤ 1 →
    not (eqb (max (min a b) (min a' b')) (max (min a b') (min a' b))) ≡ (not (eqb a a') && not (eqb b b'))
code-both a a' b b' ha ha' hb hb' = go (ℕ_discrete a a') (ℕ_discrete b b')
  where
    on : ℕ
    on = max (min a b) (min a' b')

    off : ℕ
    off = max (min a b') (min a' b)

    go : Dec (a ≡ a') → Dec (b ≡ b') → not (eqb on off) ≡ (not (eqb a a') && not (eqb b b'))
    go (yes p) _ =
        let same : on ≡ off = rw p (omega arith) in
        rw (eq-eqb on off same, eq-eqb a a' p)
    go (no p) (yes q) =
        let same : on ≡ off = rw q in
        rw (eq-eqb on off same, eq-eqb b b' q) (sym (and-false (not (eqb a a'))))
    go (no p) (no q) = rw (ne_eqb on off (both-differ a a' b b' ha ha' hb hb' p q), ne_eqb a a' p, ne_eqb b b' q)

-- Whether a pair of lines shows a code.
abbrev pub is_code : (ℕ → ℕ) → Pair → Bool
is_code ν p = not (eqb (ν p.on) (ν p.off))

-- Line y shows what its gate makes.
abbrev pub Follows : (ℕ → ℕ) → ℕ → Gate → Type 0
Follows ν y g = ν y ≡ gate_of g.kind (ν g.left) (ν g.right)

module _ (ν : ℕ → ℕ) (bits : (y : ℕ) → ν y ≤ 1) where
  made : {kind a b : ℕ} → Ok (Follows ν) (gate kind a b) (λ y. ν y ≡ gate_of kind (ν a) (ν b))
  made = ok-gate (λ y e. e)

  join-code : (a b : Pair) → Ok (Follows ν) (join a b) (λ p. is_code ν p ≡ (is_code ν a && is_code ν b))
  unfolding join
  join-code a b =
      ok-bind made (λ x ex.
      ok-bind made (λ y ey.
      ok-bind made (λ on eon.
      ok-bind made (λ u eu.
      ok-bind made (λ w ew.
      ok-bind made (λ off eoff.
      ok-return
      (rw (eon, ex, ey, eoff, eu, ew)
      (code-both (ν a.on) (ν a.off) (ν b.on) (ν b.off) (bits _) (bits _) (bits _) (bits _)))))))))

  pub tree_code : (c : Cut) (ps : List Pair) →
      Ok (Follows ν) (join_tree c ps) (λ p. is_code ν p ≡ all (size c) (λ j. is_code ν (get_or ps j no_pair)))
  unfolding all
  tree_code =
      ok-tree no_pair join (λ k ps p. is_code ν p ≡ all k (λ j. is_code ν (get_or ps j no_pair))) (λ ps. refl) (λ k m ps a b ea eb.
      ok-weaken (join-code a b) (λ p e.
      e
      ∙ ap₂ ◌&&◌ (ea ∙ all-agree k _ _ (λ j h. ap (is_code ν) (get_or-take k ps j no_pair h)))
      (eb ∙ all-agree m _ _ (λ j h. ap (is_code ν) (get_or-drop k ps j no_pair)))
      ∙ sym (all-add (λ j. is_code ν (get_or ps j no_pair)) k m)))
