-- Functions are told apart by `same`; the place of a function in a list, and in the list with one mention more.
use Prim.Native.Nat.{ℕ, suc, max, ◌≤◌, ◌<◌}
use native.Mathlib.Decide.{dec_lt}
use native.Mathlib.Omega.{arith}
use mathlib.Core.Path.{◌≡◌, refl, sym, ap, ap₂, ◌∙◌}
use mathlib.Core.Bool.{Bool, true, false, ◌&&◌, cond, false≢true}
use mathlib.Core.List.{List, [], ◌∷◌, ◌++◌}
use borrow.Author.Tests.{eqb-true, eq-eqb, lt-ltb, le-ltb}
use lib.ListN.{length, get_or, length-append, get_or-append}
use lib.Seq.{get_or_at}
use Rattle.fields.proofs.Bounded.{and_left, and_right}
use Rattle.functions.specs.Functions.{Function, constant, choice, same, place, mentioned}

pub same_true : (f g : Function) → same f g ≡ true → f ≡ g
unfolding same
same_true (constant v) (constant w) e = ap constant (eqb-true v w e)
same_true (constant v) (choice h k) e = absurd (false≢true e)
same_true (choice f g) (constant w) e = absurd (false≢true e)
same_true (choice f g) (choice h k) e =
    ap₂ choice (same_true f h (and_left (same f h) (same g k) e)) (same_true g k (and_right (same f h) (same g k) e))

pub same_refl : (f : Function) → same f f ≡ true
unfolding same
same_refl (constant v) = eq-eqb v v refl
same_refl (choice f g) = ap₂ ◌&&◌ (same_refl f) (same_refl g)

pub same_false : (f g : Function) → same f g ≡ false → f ≡ g → ⊥
same_false f g e p = false≢true (sym e ∙ ap (same f) (sym p) ∙ same_refl f)

pub same_dec : (f g : Function) → Dec (f ≡ g)
same_dec f g = go (same f g) refl
  where
    go : (b : Bool) → same f g ≡ b → Dec (f ≡ g)
    go true e = yes (same_true f g e)
    go false e = no (same_false f g e)

pub place-most : (fs : List Function) (f : Function) → place fs f ≤ length fs
unfolding place
place-most [] f = omega arith
place-most (g ∷ gs) f = go (same g f) (place-most gs f)
  where
    go : (b : Bool) → place gs f ≤ length gs → cond b 0 (suc (place gs f)) ≤ suc (length gs)
    go true h = omega arith
    go false h = omega arith

-- What stands at a function's place is that function.
pub place_is : (fs : List Function) (f d : Function) → place fs f < length fs → get_or fs (place fs f) d ≡ f
unfolding place
place_is [] f d h = absurd (omega arith)
place_is (g ∷ gs) f d h = go (same g f) refl (place_is gs f d) h
  where
    go : (b : Bool) → same g f ≡ b → (place gs f < length gs → get_or gs (place gs f) d ≡ f) →
        cond b 0 (suc (place gs f)) < suc (length gs) → get_or (g ∷ gs) (cond b 0 (suc (place gs f))) d ≡ f
    go true e rest h = same_true g f e
    go false e rest h = rest (omega arith)

-- A longer list has what was there where it was.
place-append : (fs gs : List Function) (f : Function) → place fs f < length fs → place (fs ++ gs) f ≡ place fs f
unfolding place
place-append [] gs f h = absurd (omega arith)
place-append (g ∷ fs) gs f h = go (same g f) (place-append fs gs f) h
  where
    go : (b : Bool) → (place fs f < length fs → place (fs ++ gs) f ≡ place fs f) →
        cond b 0 (suc (place fs f)) < suc (length fs) → cond b 0 (suc (place (fs ++ gs) f)) ≡ cond b 0 (suc (place fs f))
    go true rest h = refl
    go false rest h = ap suc (rest (omega arith))

-- A function put last has the place that was found for it.
place-put : (fs : List Function) (f : Function) → place (fs ++ (f ∷ [])) f ≡ place fs f
unfolding place
place-put [] f = simp (same_refl f)
place-put (g ∷ fs) f = ap (λ (k : ℕ). cond (same g f) 0 (suc k)) (place-put fs f)

module _ (fs : List Function) (f : Function) where
  pub mentioned-old : place fs f < length fs → mentioned fs f ≡ fs
  mentioned-old h = simp (lt-ltb (place fs f) (length fs) h)

  pub mentioned-new : length fs ≤ place fs f → mentioned fs f ≡ fs ++ (f ∷ [])
  mentioned-new h = simp (le-ltb (place fs f) (length fs) h)

  pub length-mentioned : length (mentioned fs f) ≡ max (length fs) (suc (place fs f))
  length-mentioned = go (dec_lt (place fs f) (length fs))
    where
      go : Dec (place fs f < length fs) → length (mentioned fs f) ≡ max (length fs) (suc (place fs f))
      go (yes h) = ap length (mentioned-old h) ∙ omega arith
      go (no h) = ap length (mentioned-new (omega arith)) ∙ length-append fs (f ∷ []) ∙ omega (arith, place-most fs f)

  pub place-mentioned : place (mentioned fs f) f ≡ place fs f
  place-mentioned = go (dec_lt (place fs f) (length fs))
    where
      go : Dec (place fs f < length fs) → place (mentioned fs f) f ≡ place fs f
      go (yes h) = ap (λ (l : List Function). place l f) (mentioned-old h)
      go (no h) = ap (λ (l : List Function). place l f) (mentioned-new (omega arith)) ∙ place-put fs f

  pub place_kept : (g : Function) → place fs g < length fs → place (mentioned fs f) g ≡ place fs g
  place_kept g l = go (dec_lt (place fs f) (length fs))
    where
      go : Dec (place fs f < length fs) → place (mentioned fs f) g ≡ place fs g
      go (yes h) = ap (λ (l : List Function). place l g) (mentioned-old h)
      go (no h) = ap (λ (l : List Function). place l g) (mentioned-new (omega arith)) ∙ place-append fs (f ∷ []) g l

  pub get_d_kept : (u : ℕ) (d : Function) → u < length fs → get_or (mentioned fs f) u d ≡ get_or fs u d
  get_d_kept u d l = go (dec_lt (place fs f) (length fs))
    where
      go : Dec (place fs f < length fs) → get_or (mentioned fs f) u d ≡ get_or fs u d
      go (yes h) = ap (λ (l : List Function). get_or l u d) (mentioned-old h)
      go (no h) = ap (λ (l : List Function). get_or l u d) (mentioned-new (omega arith)) ∙ get_or-append fs (f ∷ []) d u l

  -- A place past the list is that of the function put last.
  pub get_or-last : (u : ℕ) (d : Function) → length fs ≤ u → u < length (mentioned fs f) →
      (u ≡ place fs f) × (get_or (mentioned fs f) u d ≡ f)
  get_or-last u d l h =
      let n = length-mentioned in
      let most = place-most fs f in
      let e : length fs ≡ u = omega arith in (
        omega arith,
        ap (λ (l : List Function). get_or l u d) (mentioned-new (omega arith)) ∙ get_or_at fs f [] d u e,
      )
