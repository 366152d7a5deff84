-- The paths behind an entry (u, v) of a block. One that is not never shows 1 if every line does, and some input leads from u to v;
-- one that is not always shows 0 if every line does, and some input leads from u elsewhere.
use Prim.Native.Nat.{ℕ, ◌+◌, ◌*◌, ◌≤◌, ◌<◌}
use native.Mathlib.Decide.{ℕ_discrete}
use native.Mathlib.Nat.{add_assoc}
use native.Mathlib.Numerals.{add-one}
use native.Mathlib.Omega.{arith}
use mathlib.Core.Path.{◌≡◌, refl, sym, ap, ◌∙◌}
use mathlib.Core.Bool.{Bool, true, false, cond}
use mathlib.Core.List.{List}
use mathlib.Core.Logic.{◌⊎◌, inl, inr, by_cases}
use borrow.Author.Tests.{eqb-true, eqb-false}
use lib.Dec.{eqb}
use lib.ListN.{get_or}
use Rattle.diagram.specs.declared.Diagram.{Diagram}
use Rattle.diagram.specs.Diagram.{width, edge, Input, path, join}
use Rattle.diagram.proofs.Paths.{path-more, path_join, path-in}
use Rattle.diagram.proofs.Apart.{apart}
use Rattle.diagram.proofs.Unique.{Reduced}
use Rattle.netlist.specs.declared.Gate.{Gate}
use Rattle.rules.specs.declared.Entry.TheVariants.{Never, Always, Line}
use Rattle.rules.specs.Blocks.{Cut, one, two, size, entry_at, level_entry, level_matrix, block}
use Rattle.rules.proofs.Makes.{any_gate, Each, Ok, ok-return, ok-bind, ok-weaken, ok-table}
use Rattle.rules.proofs.Valuations.{Down, Up, shows, made-down, made_up}
use Rattle.rules.proofs.Products.{product-down, product-up}

-- Every line shows 1, and every line shows 0.
abbrev pub lit : ℕ → ℕ
lit _ = 1

abbrev pub dark : ℕ → ℕ
dark _ = 0

either : (b : Bool) (v : ℕ) → (v ≤ cond b v v) × (cond b v v ≤ v)
either true v = (omega arith, omega arith)
either false v = (omega arith, omega arith)

module _ (next : ℕ) (gates : List Gate) where
  pub lit-down : Each (Down lit) next gates
  lit-down =
      record {
        has = λ i _.
            let g = get_or gates i any_gate in
            made-down lit (next + i) g (omega arith) (omega arith) (either (eqb g.kind 0) 1).0;
      }

  pub dark-up : Each (Up dark) next gates
  dark-up =
      record {
        has = λ i _.
            let g = get_or gates i any_gate in
            made_up dark (next + i) g (omega arith) (either (eqb g.kind 0) 0).1;
      }

-- An input leads from node u of level l to node v, k levels on; an input leads elsewhere.
abbrev pub Leads : Diagram → ℕ → ℕ → ℕ → ℕ → Type 0
Leads d k l u v = (x : Input) × (path d x k l u ≡ v)

abbrev pub Misses : Diagram → ℕ → ℕ → ℕ → ℕ → Type 0
Misses d k l u v = (x : Input) × (path d x k l u ≡ v → ⊥)

-- In a single level.
module _ (d : Diagram) (l u v : ℕ) where
  level : (s t : Bool) → eqb (edge d l u true) v ≡ s → eqb (edge d l u false) v ≡ t →
      (shows lit (cond s (cond t Always (Line (2 + 2 * l))) (cond t (Line (3 + 2 * l)) Never)) ≡ 1 → Leads d 1 l u v)
      × ((shows dark (cond s (cond t Always (Line (2 + 2 * l))) (cond t (Line (3 + 2 * l)) Never)) ≡ 1) ⊎ Misses d 1 l u v)
  unfolding path
  level true true p q = (λ _. (λ _. true, eqb-true _ _ p), inl refl)
  level true false p q = (λ _. (λ _. true, eqb-true _ _ p), inr (λ _. false, eqb-false _ _ q))
  level false true p q = (λ _. (λ _. false, eqb-true _ _ q), inr (λ _. true, eqb-false _ _ p))
  level false false p q = (λ e. absurd (omega arith), inr (λ _. true, eqb-false _ _ p))

  level-leads : shows lit (level_entry d l u v) ≡ 1 → Leads d 1 l u v
  level-leads = (level _ _ refl refl).0

  level-misses : (shows dark (level_entry d l u v) ≡ 1) ⊎ Misses d 1 l u v
  level-misses = (level _ _ refl refl).1

pub leads : (d : Diagram) (c : Cut) (l : ℕ) →
    Ok (Down lit) (block d c l) (λ m. (u v : ℕ) → u < width d l → v < width d (l + size c) →
    shows lit (entry_at m u v) ≡ 1 → Leads d (size c) l u v)
unfolding block level_matrix
leads d one l =
    rw (add-one l)
    (ok-table Never _ {Q = λ u v e. shows lit e ≡ 1 → Leads d 1 l u v} _ _ (λ u v _ _. ok-return (level-leads d l u v)))
leads d (two a b) l =
    rw (← add_assoc l (size a) (size b))
    (ok-bind (leads d a l) (λ left lefts.
    ok-bind (leads d b (l + size a)) (λ right rights.
    ok-weaken (product-down lit _ _ _ left right) (λ m down u v hu hv e.
    let (w, hw, el, er) = down u v hu hv e in
    let (x, p) = lefts u w hu hw el in
    let (y, q) = rights w v hw hv er in
    (join (l + size a) x y, path_join d x y (size a) (size b) l u ∙ ap (path d y (size b) (l + size a)) p ∙ q)))))

module _ (d : Diagram) (reduced : Reduced d) where
  -- Two nodes of a level lead to different nodes k levels on.
  apart-within : (k left l u v : ℕ) → l + k + left ≡ d.contacts → u < width d l → v < width d l → (u ≡ v → ⊥) →
      (x : Input) × (path d x k l u ≡ path d x k l v → ⊥)
  apart-within k left l u v e hu hv ne =
      let (x, told) = apart d reduced.ranged reduced.differing (k + left) l u v (omega arith) hu hv ne in
      (x, λ p. told (path-more d x k left l u ∙ ap (path d x left (l + k)) p ∙ sym (path-more d x k left l v)))

  -- The step to a product, of which A, B and C say that the factors at middle node w and the entry are always. Let some input lead
  -- from u to w: the factors there are always, or one more input shows that not every path from u leads to v.
  through : (k m left l u v : ℕ) {A B : ℕ → Type 0} {C : Type 0} → l + k + m + left ≡ d.contacts → u < width d l →
      ((w : ℕ) → w < width d (l + k) → A w ⊎ Misses d k l u w) →
      ((w : ℕ) → w < width d (l + k) → B w ⊎ Misses d m (l + k) w v) →
      ((w : ℕ) → w < width d (l + k) → A w → B w → C) → C ⊎ Misses d (k + m) l u v
  through k m left l u v {A} {B} {C} e hu lefts rights both = go (lefts (to x₀) (inside x₀)) (rights (to x₀) (inside x₀))
    where
      x₀ : Input
      x₀ _ = false

      to : Input → ℕ
      to x = path d x k l u

      inside : (x : Input) → to x < width d (l + k)
      inside x = path-in d reduced.ranged x k l u (omega arith) hu

      miss : (x y : Input) → (path d y m (l + k) (to x) ≡ v → ⊥) → C ⊎ Misses d (k + m) l u v
      miss x y ne = inr (join (l + k) x y, λ p. ne (sym (path_join d x y k m l u) ∙ p))

      go : A (to x₀) ⊎ Misses d k l u (to x₀) → B (to x₀) ⊎ Misses d m (l + k) (to x₀) v → C ⊎ Misses d (k + m) l u v
      go (inl a) (inl b) = inl (both (to x₀) (inside x₀) a b)
      go (inl a) (inr (y, ne)) = miss x₀ y ne
      go (inr (x, ne)) _ =
          let (y, told) = apart-within m left (l + k) (to x) (to x₀) e (inside x) (inside x₀) ne in
          by_cases (ℕ_discrete (path d y m (l + k) (to x₀)) v) (λ p. miss x y (λ q. told (q ∙ sym p))) (miss x₀ y)

  pub misses : (c : Cut) (left l : ℕ) → l + size c + left ≡ d.contacts →
      Ok (Up dark) (block d c l) (λ m. (u v : ℕ) → u < width d l → v < width d (l + size c) →
      (shows dark (entry_at m u v) ≡ 1) ⊎ Misses d (size c) l u v)
  unfolding block level_matrix
  misses one left l e =
      rw (add-one l)
      (ok-table Never _ {Q = λ u v e. (shows dark e ≡ 1) ⊎ Misses d 1 l u v} _ _ (λ u v _ _. ok-return (level-misses d l u v)))
  misses (two a b) left l e =
      rw (← add_assoc l (size a) (size b))
      (ok-bind (misses a (size b + left) l (omega arith)) (λ first firsts.
      ok-bind (misses b left (l + size a) (omega arith)) (λ second seconds.
      ok-weaken (product-up dark _ _ _ first second) (λ m up u v hu hv.
      through (size a) (size b) left l u v (omega arith) hu (λ w. firsts u w hu) (λ w hw. seconds w v hw hv)
      (λ w hw a b. up u v hu hv (w, hw, a, b))))))
