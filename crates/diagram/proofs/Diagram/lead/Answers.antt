-- `Diagram::lead` meets its contract. The loop's invariant: from node u of level l the levels left lead where all lead from the first node.
use native.Mathlib.Nat.{sub-zero}
use native.Mathlib.Numerals.{add-one}
use native.Mathlib.Omega.{arith}
use Prim.Native.Nat.{ℕ, zero, suc, ◌+◌, ◌*◌, ◌/◌, ◌%◌, ◌-◌, ◌^◌, ◌≤◌, ◌<◌}
use mathlib.Core.Path.{◌≡◌, refl, ap, ◌∙◌}
use lib.Dec.{eqb}
use lib.ListN.{get_or}
use lib.Pow.{shr-shr}
use Rattle.diagram.specs.declared.Diagram.{Diagram}
use Rattle.diagram.specs.Diagram.{bit, edge_at, input_of, path}
use Rattle.diagram.proofs.Diagram.lead.Goals as goal

odd : (m : ℕ) → bit (eqb (m % 2) 1) ≡ m % 2
odd m = go (m % 2) (omega arith)
  where
    go : (k : ℕ) → k < 2 → bit (eqb k 1) ≡ k
    go zero h = refl
    go (suc zero) h = refl
    go (suc (suc k)) h = absurd (omega arith)

module _ (d : Diagram) (a l u : ℕ) where
  -- The byte read at level l is the node that the path goes on from; no level is left at the end.
  one-level : (rest v : ℕ) → l < d.contacts → rest ≡ a / 2 ^ l → v ≡ get_or d.edges (l * 16 + (2 * u + rest % 2)) 0 →
      path d (input_of a) (d.contacts - (l + 1)) (l + 1) v ≡ path d (input_of a) (d.contacts - l) l u
  unfolding path input_of edge_at
  one-level rest v h r b =
      let left : d.contacts - l ≡ suc (d.contacts - (l + 1)) = omega arith in
      rw (left, add-one l, b) (ap (λ (k : ℕ). path d (input_of a) (d.contacts - suc l) (suc l) k) (cc (odd (a / 2 ^ l))))

  no-level : l ≤ d.contacts → d.contacts ≤ l → u ≡ path d (input_of a) (d.contacts - l) l u
  unfolding path
  no-level h g = let e : d.contacts - l ≡ 0 = omega arith in rw e

pub loop-l-init : goal.loop-l-init
loop-l-init c =
    let a = c.args in
    let d = a.self.now in
    (omega arith, omega arith, omega arith, ap (λ (k : ℕ). path d (input_of a.input) k 0 a.node) (sub-zero d.contacts))

pub loop-l-preserved : goal.loop-l-preserved
loop-l-preserved c =
    let a = c.args in
    let loop = c.loop-l in (
      omega arith,
      omega (arith, c.byte-u.type_inv),
      ap (λ (k : ℕ). k / 2) loop.invariant.2 ∙ shr-shr a.input loop.l 1,
      one-level a.self.now a.input loop.l loop.u loop.rest c.byte-u.result c.loop-l-test.true loop.invariant.2 c.byte-u.ensures ∙ loop.invariant.3,
    )

pub returns : goal.returns
returns c =
    let a = c.args in
    let loop = c.loop-l in
    no-level a.self.now a.input loop.l loop.u loop.invariant.0 c.loop-l-test.false ∙ loop.invariant.3
