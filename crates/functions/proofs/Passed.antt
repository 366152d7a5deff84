-- The diagram of some functions' table passes questions 5 to 7.
use Prim.Native.Nat.{ℕ, zero, suc, max, ◌-◌, ◌≤◌, ◌<◌}
use native.Mathlib.Omega.{arith}
use mathlib.Core.Path.{◌≡◌, refl, sym, ap, ap₂, ◌∙◌}
use mathlib.Core.Bool.{Bool, true, false, not, ◌&&◌}
use borrow.Author.Tests.{eqb-true, eq-eqb, lt-ltb, le-leb}
use lib.Dec.{eqb}
use lib.ListN.{length, get_or}
use Rattle.fields.proofs.Bounded.{all_of, and_left, and_right}
use Rattle.diagram.specs.declared.Diagram.{Diagram}
use Rattle.diagram.specs.Diagram.{width, edge}
use Rattle.diagram.proofs.Unique.{Reduced}
use Rattle.diagram.specs.Questions.{in_range, alike, distinct, mention, mentions, brought, numbered}
use Rattle.table.specs.Table.{diagram_of}
use Rattle.table.proofs.Written.{Limits}
use Rattle.functions.specs.Functions.{Function, constant, half, place, level_of, canonical}
use Rattle.functions.proofs.Diagrams.{diagram_for, outputs-is, width_is, mentions-is, mention-is, edge-is, mention-place, number-in}
use Rattle.functions.proofs.Levels.{mention_of, mentions_of, half_full, level-own, level-in-turn, level-brought, half_in, level-full}
use Rattle.functions.proofs.Numbers.{number_same, halves-same}
use Rattle.functions.proofs.Trees.{Full}

brought-same : (f g : ℕ → ℕ) (k : ℕ) → ((i : ℕ) → i < k → f i ≡ g i) → brought f k ≡ brought g k
unfolding brought
brought-same f g zero h = refl
brought-same f g (suc k) h = ap₂ max (brought-same f g k (λ i l. h i (omega arith))) (ap suc (h k (omega arith)))

alike-edges : (d : Diagram) (l u v : ℕ) → alike d l u v ≡ true → (b : Bool) → edge d l u b ≡ edge d l v b
alike-edges d l u v e false = eqb-true _ _ (and_left _ _ e)
alike-edges d l u v e true = eqb-true _ _ (and_right (eqb (edge d l u false) (edge d l v false)) _ e)

module _ (n m : ℕ) (f : ℕ → Function) (s : Limits (canonical n m f)) (full : (j : ℕ) → j < m → Full n (f j)) where
  -- Question 5.
  mention-below : (l k : ℕ) → l ≤ n → k < mentions_of f m l → mention (diagram_for n m f) l k < width (diagram_for n m f) l
  mention-below l k h g = rw (mention-is n m f s l k h g) (number-in n m f s full l (n - l) k (omega arith) g)

  ranged : in_range (diagram_for n m f) ≡ true
  unfolding in_range mention diagram_of
  ranged =
      ap₂ ◌&&◌ (all_of _ _ (λ j h. lt-ltb _ _ (mention-below 0 j (omega arith) (rw (outputs-is n m f s) at h))))
      (all_of _ _ (λ l h. all_of _ _ (λ k g. lt-ltb _ _ (mention-below (suc l) k h (rw (width_is n m f s l h) at g)))))

  -- Question 6: nodes with the same edges have functions with the same halves.
  edges-same : (l u v : ℕ) → l < n → u < length (level_of f m l) → v < length (level_of f m l) →
      ((b : Bool) → edge (diagram_for n m f) l u b ≡ edge (diagram_for n m f) l v b) → u ≡ v
  edges-same l u v h hu hv same =
      sym (level-own f m l u (constant 0) hu)
      ∙ ap (place (level_of f m l)) (halves-same (n - suc l) (at u) (at v) (at-full u hu) (at-full v hv) (halves false) (halves true))
      ∙ level-own f m l v (constant 0) hv
    where
      at : ℕ → Function
      at w = get_or (level_of f m l) w (constant 0)

      at-full : (w : ℕ) → w < length (level_of f m l) → Full (suc (n - suc l)) (at w)
      at-full w g = level-full f m n full l (suc (n - suc l)) (omega arith) w (constant 0) g

      at_in : (b : Bool) (w : ℕ) → w < length (level_of f m l) → place (level_of f m (suc l)) (half b (at w)) < length (level_of f m (suc l))
      at_in b w g = half_in f m l (at w) b (rw (level-own f m l w (constant 0) g) g)

      halves : (b : Bool) → half b (at u) ≡ half b (at v)
      halves b =
          number_same (level_of f m (suc l)) (n - suc l) (half b (at u)) (half b (at v)) (half_full b (n - suc l) (at u) (at-full u hu))
          (half_full b (n - suc l) (at v) (at-full v hv)) (at_in b u hu) (at_in b v hv)
          (sym (edge-is n m f s l u b h hu) ∙ same b ∙ edge-is n m f s l v b h hv)

  unlike : (l u v : ℕ) → l < n → v < width (diagram_for n m f) l → u < v → not (alike (diagram_for n m f) l u v) ≡ true
  unlike l u v h hv lt = go (alike (diagram_for n m f) l u v) refl
    where
      go : (t : Bool) → alike (diagram_for n m f) l u v ≡ t → not t ≡ true
      go false e = refl
      go true e =
          let w = width_is n m f s l h in
          let p = edges-same l u v h (omega arith) (omega arith) (alike-edges (diagram_for n m f) l u v e) in
          absurd (omega arith)

  differing : distinct (diagram_for n m f) ≡ true
  unfolding distinct diagram_of
  differing = all_of _ _ (λ l h. all_of _ _ (λ v hv. all_of _ _ (λ u lt. unlike l u v h hv lt)))

  -- Question 7.
  named : (l k : ℕ) → l < n → k < mentions_of f m l → mention (diagram_for n m f) l k ≡ place (level_of f m l) (mention_of f m l k)
  named l k h g =
      mention-is n m f s l k (omega arith) g ∙ mention-place n m f s full l (n - suc l) k (omega arith) g

  named-brought : (l k : ℕ) → l < n → k ≤ mentions_of f m l →
      brought (mention (diagram_for n m f) l) k ≡ brought (λ i. place (level_of f m l) (mention_of f m l i)) k
  named-brought l k h g = brought-same _ _ k (λ i a. named l i h (omega arith))

  turned : (l k : ℕ) → l < n → k < mentions_of f m l → mention (diagram_for n m f) l k ≤ brought (mention (diagram_for n m f) l) k
  turned l k h g = rw (named l k h g, named-brought l k h (omega arith)) (level-in-turn f m l k g)

  brings : (l : ℕ) → l < n → brought (mention (diagram_for n m f) l) (mentions (diagram_for n m f) l) ≡ width (diagram_for n m f) l
  brings l h =
      ap (brought (mention (diagram_for n m f) l)) (mentions-is n m f s l (omega arith))
      ∙ named-brought l (mentions_of f m l) h (omega arith)
      ∙ level-brought f m l
      ∙ sym (width_is n m f s l h)

  counted : numbered (diagram_for n m f) ≡ true
  unfolding numbered diagram_of
  counted = all_of _ _ (λ l h.
      ap₂ ◌&&◌ (all_of _ _ (λ k g. le-leb _ _ (turned l k h (rw (mentions-is n m f s l (omega arith)) at g))))
      (eq-eqb _ _ (brings l h)))

  pub reduced : Reduced (diagram_for n m f)
  reduced = record { ranged = ranged; differing = differing; counted = counted }
