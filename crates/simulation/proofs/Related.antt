-- Two runs whose rules and rails are related, value by value, give related lines.
use Prim.Native.Nat.{ℕ, zero, suc}
use mathlib.Core.Path.{◌≡◌, refl, ap}
use mathlib.Core.List.{List, [], ◌∷◌, ◌++◌, map}
use lib.ListN.{length, get_or}
use Rattle.netlist.specs.declared.Gate.{Gate}
use Rattle.simulation.specs.Run.{Driver, rail, gate, Rule, drive, work_out}

pub data Pairwise {A B : Type 0} (R : A → B → Type 0) : List A → List B → Type 0 where
  none : Pairwise R [] []
  more : {a : A} {b : B} {xs : List A} {ys : List B} → R a b → Pairwise R xs ys → Pairwise R (a ∷ xs) (b ∷ ys)

module _ {A B : Type 0} {R : A → B → Type 0} where
  pub each-length : {xs : List A} {ys : List B} → Pairwise R xs ys → length xs ≡ length ys
  each-length none = refl
  each-length (more h e) = ap suc (each-length e)

  pub each_at : {xs : List A} {ys : List B} {d : A} {e : B} → Pairwise R xs ys → R d e → (i : ℕ) → R (get_or xs i d) (get_or ys i e)
  each_at none h i = h
  each_at (more k e) h zero = k
  each_at (more k e) h (suc i) = each_at e h i

  pub each_append : {xs us : List A} {ys ws : List B} → Pairwise R xs ys → Pairwise R us ws → Pairwise R (xs ++ us) (ys ++ ws)
  each_append none f = f
  each_append (more h e) f = more h (each_append e f)

pub data Alike {A B : Type 0} (R : A → B → Type 0) : Driver A → Driver B → Type 0 where
  rails : {a : A} {b : B} → R a b → Alike R (rail a) (rail b)
  gates : (g : Gate) → Alike R (gate g) (gate g)

-- The drivers of the same gates, from related rails.
module _ {A B : Type 0} {R : A → B → Type 0} where
  each-gate : (gs : List Gate) → Pairwise (Alike R) (map gate gs) (map gate gs)
  each-gate [] = none
  each-gate (g ∷ gs) = more (gates g) (each-gate gs)

  pub each-driver : {xs : List A} {ys : List B} (gs : List Gate) → Pairwise R xs ys →
      Pairwise (Alike R) (map rail xs ++ map gate gs) (map rail ys ++ map gate gs)
  each-driver gs none = each-gate gs
  each-driver gs (more h e) = more (rails h) (each-driver gs e)

module _ {A B : Type 0} (r : Rule A) (s : Rule B) (R : A → B → Type 0) (on_none : R r.none s.none)
    (on_op : (x k : ℕ) (a c : A) (b d : B) → R a b → R c d → R (r.op x k a c) (s.op x k b d))
    (on-shows : (x : ℕ) (a : A) (b : B) → R a b → R (r.shows x a) (s.shows x b)) where
  drive-each : {vs : List A} {ws : List B} {d : Driver A} {e : Driver B} → Pairwise R vs ws → Alike R d e → R (drive r vs d) (drive s ws e)
  unfolding drive
  drive-each vs (rails h) = h
  drive-each {vs = xs} vs (gates g) =
      rw (← each-length vs, drive) (on_op (length xs) g.kind _ _ _ _ (each_at vs on_none g.left) (each_at vs on_none g.right))

  pub run-each : {vs : List A} {ws : List B} {ds : List (Driver A)} {es : List (Driver B)} → Pairwise (Alike R) ds es → Pairwise R vs ws →
      Pairwise R (work_out r ds vs) (work_out s es ws)
  unfolding work_out
  run-each none vs = vs
  run-each {vs = xs} {ws = ys} (more {a = a} {b = b} {xs = xs'} {ys = ys'} d ds) vs =
      run-each {vs = xs ++ r.shows (length xs) (drive r xs a) ∷ []} ds
      (each_append vs (more (rw (← each-length vs) (on-shows (length xs) _ _ (drive-each vs d))) none))
