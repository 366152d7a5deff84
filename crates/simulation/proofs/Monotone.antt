-- Values are 0 or 1; with holds all at 0 each line is at most what it is with none, with holds all at 1 at least.
use native.Mathlib.Omega.{arith}
use Prim.Native.Nat.{ℕ, suc, min, max, ◌≤◌}
use mathlib.Core.Path.{◌≡◌, refl}
use mathlib.Core.Bool.{Bool, true, false, ◌&&◌, cond}
use mathlib.Core.List.{List, [], ◌∷◌}
use borrow.Author.Tests.{ne_eqb}
use lib.Dec.{eqb}
use lib.ListN.{get_or}
use Rattle.fields.proofs.Every.{Every}
use Rattle.netlist.specs.declared.Hold.{Hold}
use Rattle.netlist.specs.Netlist.{Netlist, site_of, level_of}
use Rattle.simulation.specs.Run.{gate_of, held, holding, values_of}
use Rattle.simulation.proofs.Related.{Pairwise, none, more, each_at, each-driver, run-each}

abbrev pub AllHeld : (ℕ → Type 0) → List Hold → Type 0
AllHeld P = Every (λ (h : Hold). P (level_of h))

-- What holds of a value and of each held value holds of what a site has.
pub held_by : (P Q : ℕ → Type 0) → ((v : ℕ) → Q v → P v) → (hs : List Hold) → AllHeld Q hs → (x s v : ℕ) → P v →
    P (held hs x s v)
unfolding held
held_by P Q f [] a x s v p = p
held_by P Q f (h ∷ hs) a x s v p = go (eqb h.line x && eqb (site_of h) s) (f _ a.0) (held_by P Q f hs a.1 x s v p)
  where
    go : (b : Bool) → P (level_of h) → P (held hs x s v) → P (cond b (level_of h) (held hs x s v))
    go true y n = y
    go false y n = n

-- A line that no hold names has nothing held.
pub held-elsewhere : (hs : List Hold) → (x s v : ℕ) → Every (λ (h : Hold). h.line ≡ x → ⊥) hs → held hs x s v ≡ v
unfolding held
held-elsewhere [] x s v e = refl
held-elsewhere (h ∷ hs) x s v (ne, e) = simp (ne_eqb _ _ ne) (held-elsewhere hs x s v e)

-- A gate of greater values makes a greater one, and of the values 0 and 1 one of them.
pub gate-mono : (k a c b d : ℕ) → a ≤ b → c ≤ d → gate_of k a c ≤ gate_of k b d
gate-mono k a c b d p q = go (eqb k 0)
  where
    go : (t : Bool) → cond t (min a c) (max a c) ≤ cond t (min b d) (max b d)
    go true = omega arith
    go false = omega arith

pub gate-bit : (k a b : ℕ) → a ≤ 1 → b ≤ 1 → gate_of k a b ≤ 1
gate-bit k a b p q = go (eqb k 0)
  where
    go : (t : Bool) → cond t (min a b) (max a b) ≤ 1
    go true = omega arith
    go false = omega arith

each-self : (R : ℕ → ℕ → Type 0) (rails : List ℕ) → ((i : ℕ) → R (get_or rails i 0) (get_or rails i 0)) → Pairwise R rails rails
each-self R [] h = none
each-self R (a ∷ rails) h = more (h 0) (each-self R rails (λ i. h (suc i)))

-- What gates and what lines show keep holds between the runs of a netlist under two hold lists, line by line.
pub values-each : (net : Netlist) (rails : List ℕ) (hs ks : List Hold) (R : ℕ → ℕ → Type 0) → R 0 0 → R 1 1 →
    ((i : ℕ) → R (get_or rails i 0) (get_or rails i 0)) →
    ((k a c b d : ℕ) → R a b → R c d → R (gate_of k a c) (gate_of k b d)) →
    ((x s a b : ℕ) → R a b → R (held hs x s a) (held ks x s b)) →
    (k : ℕ) → R (get_or (values_of net rails hs) k 0) (get_or (values_of net rails ks) k 0)
unfolding values_of
values-each net rails hs ks R low high on-rails on-gates on-held =
    let constants : Pairwise R (0 ∷ 1 ∷ []) (0 ∷ 1 ∷ []) = more low (more high none) in
    each_at
    (run-each (holding hs) (holding ks) R low (λ x k a c b d p q. on-gates k _ _ _ _ (on-held x 1 a b p) (on-held x 2 c d q))
    (λ x. on-held x 0) (each-driver net.gates (each-self R rails on-rails)) constants)
    low

module _ (net : Netlist) (rails : List ℕ) (holds : List Hold) where
  pub lines-lower : AllHeld (λ v. v ≡ 0) holds → (k : ℕ) → get_or (values_of net rails holds) k 0 ≤ get_or (values_of net rails []) k 0
  unfolding held
  lines-lower low =
      values-each net rails holds [] ◌≤◌ (omega arith) (omega arith) (λ i. omega arith) gate-mono
      (λ x s a b p. held_by (λ v. v ≤ b) (λ v. v ≡ 0) (λ v e. omega arith) holds low x s a p)

  module _ (bits : (i : ℕ) → get_or rails i 0 ≤ 1) where
    pub lines-higher : AllHeld (λ v. v ≡ 1) holds → (k : ℕ) → get_or (values_of net rails []) k 0 ≤ get_or (values_of net rails holds) k 0
    unfolding held
    lines-higher high k =
        (values-each net rails [] holds (λ a b. (a ≤ b) × (b ≤ 1)) (omega arith) (omega arith) (λ i. omega (arith, bits i))
        (λ k a c b d p q. (gate-mono k a c b d p.0 q.0, gate-bit k b d p.1 q.1))
        (λ x s a b p. held_by (λ v. (a ≤ v) × (v ≤ 1)) (λ v. v ≡ 1) (λ v e. omega arith) holds high x s b p)
        k).0

    pub lines-bits : AllHeld (λ v. v ≤ 1) holds → (k : ℕ) → get_or (values_of net rails holds) k 0 ≤ 1
    lines-bits bit =
        values-each net rails holds holds (λ a b. a ≤ 1) (omega arith) (omega arith) bits (λ k a c b d. gate-bit k a c)
        (λ x s a b. held_by (λ v. v ≤ 1) (λ v. v ≤ 1) (λ v e. e) holds bit x s a)
