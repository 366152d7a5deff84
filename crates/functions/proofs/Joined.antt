-- Inputs with a contact set, and joined ones.
use Prim.Native.Nat.{ℕ, suc, ◌<◌}
use native.Mathlib.Decide.{ℕ_discrete, dec_lt}
use native.Mathlib.Omega.{arith}
use mathlib.Core.Path.{◌≡◌, refl, sym, ◌∙◌, fun_ext}
use mathlib.Core.Bool.{Bool}
use borrow.Author.Tests.{eq-eqb, ne_eqb}
use Rattle.diagram.specs.Diagram.{Input, join}
use Rattle.diagram.proofs.Inputs.{join-below, join-from}
use Rattle.functions.specs.Functions.{with_contact}

set_at : (l : ℕ) (b : Bool) (x : Input) → with_contact l b x l ≡ b
set_at l b x = simp (eq-eqb l l refl)

set_other : (l : ℕ) (b : Bool) (x : Input) (i : ℕ) → (i ≡ l → ⊥) → with_contact l b x i ≡ x i
set_other l b x i ne = simp (ne_eqb i l ne)

pub set_own : (l : ℕ) (x : Input) → with_contact l (x l) x ≡ x
set_own l x = fun_ext (λ i. go i (ℕ_discrete i l))
  where
    go : (i : ℕ) → Dec (i ≡ l) → with_contact l (x l) x i ≡ x i
    go i (yes e) = rw e (set_at l (x l) x)
    go i (no ne) = set_other l (x l) x i ne

-- A contact set before the join is set in what is joined on.
pub join-set : (l : ℕ) (b : Bool) (x y : Input) → join (suc l) (with_contact l b x) y ≡ join l x (with_contact l b y)
join-set l b x y = fun_ext (λ i. go i (dec_lt i l) (ℕ_discrete i l))
  where
    go : (i : ℕ) → Dec (i < l) → Dec (i ≡ l) → join (suc l) (with_contact l b x) y i ≡ join l x (with_contact l b y) i
    go i (yes h) d =
        join-below (suc l) (with_contact l b x) y i (omega arith) ∙ set_other l b x i (λ e. omega arith)
        ∙ sym (join-below l x (with_contact l b y) i h)
    go i (no h) (yes e) =
        join-below (suc l) (with_contact l b x) y i (omega arith) ∙ rw e (set_at l b x ∙ sym (set_at l b y))
        ∙ sym (join-from l x (with_contact l b y) i (omega arith))
    go i (no h) (no ne) =
        join-from (suc l) (with_contact l b x) y i (omega arith) ∙ sym (set_other l b y i ne)
        ∙ sym (join-from l x (with_contact l b y) i (omega arith))

pub join-same : (l : ℕ) (x y z : Input) → ((i : ℕ) → i < l → x i ≡ y i) → join l x z ≡ join l y z
join-same l x y z h = fun_ext (λ i. go i (dec_lt i l))
  where
    go : (i : ℕ) → Dec (i < l) → join l x z i ≡ join l y z i
    go i (yes g) = join-below l x z i g ∙ h i g ∙ sym (join-below l y z i g)
    go i (no g) = join-from l x z i (omega arith) ∙ sym (join-from l y z i (omega arith))
