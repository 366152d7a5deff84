-- The lines that gates and outputs read.
use Prim.Native.Nat.{ℕ, zero, suc, ◌<◌}
use native.Mathlib.Omega.{arith}
use mathlib.Core.Path.{◌≡◌, refl}
use mathlib.Core.Bool.{Bool, true, false, ◌||◌, true≢false, false≢true}
use mathlib.Core.List.{List, [], ◌∷◌}
use mathlib.Core.Logic.{◌⊎◌, inl, inr, ⊎_elim}
use borrow.Author.Tests.{eqb-true, eqb-false}
use lib.Dec.{eqb}
use lib.ListN.{length, get_or}
use Rattle.netlist.specs.declared.Gate.{Gate}
use Rattle.netlist.specs.declared.Pair.{Pair}
use Rattle.netlist.specs.Netlist.{Netlist, any_of, is_read}

or-either : (a b : Bool) → (a || b) ≡ true → (a ≡ true) ⊎ (b ≡ true)
or-either true b e = inl refl
or-either false b e = inr e

or-neither : (a b : Bool) → (a || b) ≡ false → (a ≡ false) × (b ≡ false)
or-neither true b e = absurd (true≢false e)
or-neither false b e = (refl, e)

module _ {A : Type 0} (p : A → Bool) (none : A) where
  any-of-found : (xs : List A) → any_of p xs ≡ true → (i : ℕ) × (i < length xs) × (p (get_or xs i none) ≡ true)
  unfolding any_of
  any-of-found [] e = absurd (false≢true e)
  any-of-found (x ∷ xs) e =
      ⊎_elim (λ h. (0, omega arith, h)) (λ h. let (i, l, t) = any-of-found xs h in (suc i, omega arith, t))
      (or-either (p x) (any_of p xs) e)

  any-of-none : (xs : List A) → any_of p xs ≡ false → (i : ℕ) → i < length xs → p (get_or xs i none) ≡ false
  unfolding any_of
  any-of-none [] e i l = absurd (omega arith)
  any-of-none (x ∷ xs) e zero l = (or-neither (p x) (any_of p xs) e).0
  any-of-none (x ∷ xs) e (suc i) l = any-of-none xs (or-neither (p x) (any_of p xs) e).1 i (omega arith)

-- A gate or an output reads two lines.
one_of_two : (T : ℕ → Type 0) (a b x : ℕ) → (eqb a x || eqb b x) ≡ true → T a × T b → T x
one_of_two T a b x e (p, q) =
    ⊎_elim (λ h. rw (← eqb-true a x h) p) (λ h. rw (← eqb-true b x h) q) (or-either (eqb a x) (eqb b x) e)

none_of_two : (a b x : ℕ) → (eqb a x || eqb b x) ≡ false → (a ≡ x → ⊥) × (b ≡ x → ⊥)
none_of_two a b x e = let (p, q) = or-neither (eqb a x) (eqb b x) e in (eqb-false a x p, eqb-false b x q)

module _ (net : Netlist) (x : ℕ) (gate : Gate) (pair : Pair) where
  abbrev gate_at : ℕ → Gate
  gate_at g = get_or net.gates g gate

  abbrev pair_at : ℕ → Pair
  pair_at j = get_or net.pairs j pair

  -- What all sources and output lines have, a line that is read has.
  pub read_has : (T : ℕ → Type 0) → ((g : ℕ) → g < length net.gates → T (gate_at g).left × T (gate_at g).right) →
      ((j : ℕ) → j < length net.pairs → T (pair_at j).on × T (pair_at j).off) → is_read net x ≡ true → T x
  unfolding is_read
  read_has T gates pairs e =
      ⊎_elim
      (λ h. let (g, l, t) = any-of-found _ gate net.gates h in one_of_two T _ _ x t (gates g l))
      (λ h. let (j, l, t) = any-of-found _ pair net.pairs h in one_of_two T _ _ x t (pairs j l))
      (or-either (any_of _ net.gates) (any_of _ net.pairs) e)

  -- Where a line is not read, all of them are other lines.
  module _ (e : is_read net x ≡ false) where
    pub gate-elsewhere : (g : ℕ) → g < length net.gates → ((gate_at g).left ≡ x → ⊥) × ((gate_at g).right ≡ x → ⊥)
    unfolding is_read
    gate-elsewhere g l =
        none_of_two _ _ x
        (any-of-none _ gate net.gates (or-neither (any_of _ net.gates) (any_of _ net.pairs) e).0 g l)

    pub pair-elsewhere : (j : ℕ) → j < length net.pairs → ((pair_at j).on ≡ x → ⊥) × ((pair_at j).off ≡ x → ⊥)
    unfolding is_read
    pair-elsewhere j l =
        none_of_two _ _ x
        (any-of-none _ pair net.pairs (or-neither (any_of _ net.gates) (any_of _ net.pairs) e).1 j l)
