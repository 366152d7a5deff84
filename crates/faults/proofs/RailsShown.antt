-- Each rail of a level that has a node with different edges spoils an entry on some output's path when it is stuck.
use Prim.Native.Nat.{ℕ, suc, ◌+◌, ◌*◌, ◌≤◌, ◌<◌}
use native.Mathlib.Decide.{dec_lt}
use native.Mathlib.Numerals.{add-one}
use native.Mathlib.Omega.{arith}
use mathlib.Core.Path.{◌≡◌, refl, sym, ◌∙◌}
use mathlib.Core.Bool.{Bool, true, false, not}
use mathlib.Core.Logic.{by_cases}
use borrow.Author.Tests.{eq-eqb, ne_eqb}
use Rattle.diagram.specs.declared.Diagram.{Diagram}
use Rattle.diagram.specs.Diagram.{width, edge, path}
use Rattle.diagram.proofs.Paths.{Branches, edge_in_lem}
use Rattle.diagram.proofs.Unique.{Reduced}
use Rattle.rules.specs.declared.Entry.TheVariants.{Never, Line}
use Rattle.rules.specs.Blocks.{Cut, one, two, size, level_entry, level_matrix, block}
use Rattle.rules.proofs.Makes.{ok-return, ok-table}
use Rattle.faults.proofs.Live.{lit-down}
use Rattle.faults.proofs.Shown.{entry_of, Spoils, low-on, high-on}
use Rattle.faults.proofs.Lifts.{after, shown-left, shown-right}

-- The true rail and the false rail of a contact.
abbrev pub rail_of : ℕ → Bool → ℕ
rail_of i true = 2 + 2 * i
rail_of i false = 3 + 2 * i

module _ (d : Diagram) (reduced : Reduced d) where
  module _ (l u : ℕ) (hu : u < width d l) (ne : edge d l u false ≡ edge d l u true → ⊥) where
    level-line : (t : Bool) → level_entry d l u (edge d l u t) ≡ Line (rail_of l t)
    level-line true = simp (eq-eqb (edge d l u true) _ refl, ne_eqb _ _ ne)
    level-line false = simp (eq-eqb (edge d l u false) _ refl, ne_eqb _ _ (λ p. ne (sym p)))

    elsewhere : (t : Bool) → edge d l u (not t) ≡ edge d l u t → ⊥
    elsewhere true = ne
    elsewhere false = λ p. ne (sym p)

    level-shown : (t : Bool) (left next : ℕ) → l + 1 + left ≡ d.contacts → Spoils d (rail_of l t) one left l next
    unfolding path block level_matrix
    level-shown t left next e =
        record {
          low =
              low-on d reduced (λ ν. ν (rail_of l t) ≡ 0) one l next u v (omega arith) hu 1 0 v (omega arith) (λ _. t) (λ _. t) refl refl
              (λ x ν _ _ _ o shown. let shown : ν (rail_of l t) ≡ 1 = rw entry at shown in omega arith);
          high =
              high-on d reduced (λ ν. ν (rail_of l t) ≡ 1) one l next u v (omega arith) hu left e (rw (add-one l) hv) (λ _. not t)
              (elsewhere t) (λ ν _ o. rw entry o);
        }
      where
        v : ℕ
        v = edge d l u t

        hv : v < width d (suc l)
        hv = edge_in_lem d reduced.ranged l u t (omega arith) hu

        entry : entry_of d one l next u v ≡ Line (rail_of l t)
        entry =
            (ok-table Never _ {Q = λ u v e. e ≡ level_entry d l u v} _ _ (λ u v _ _. ok-return refl)
            ).result next (lit-down next _) u v hu hv
            ∙ level-line t

  module _ (i : ℕ) (t : Bool) (branch : Branches d i) where
    pub rail-shown : (c : Cut) (left l next : ℕ) → l + size c + left ≡ d.contacts → l ≤ i → i < l + size c →
        Spoils d (rail_of i t) c left l next
    rail-shown one left l next e low high =
        let p : i ≡ l = omega arith in
        let (u, hu, ne) = branch in
        rw (← p) (level-shown i u hu ne t left next (omega arith))
    rail-shown (two a b) left l next e low high =
        by_cases (dec_lt i (l + size a))
        (λ h.
        shown-left d reduced.ranged (rail_of i t) a b left l next e
        (rail-shown a (size b + left) l next (omega arith) low h))
        (λ h.
        shown-right d reduced.ranged (rail_of i t) a b left l next e
        (rail-shown b left (l + size a) (after d a l next) (omega arith) (omega arith) (omega arith)))
