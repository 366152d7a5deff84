-- Decision trees: their depth, their value at an input, and that they are equal where the values are.
use Prim.Native.Nat.{ℕ, zero, suc, ◌+◌, ◌<◌}
use native.Mathlib.Omega.{arith}
use mathlib.Core.Path.{◌≡◌, refl, sym, ap, ap₂, ◌∙◌, fun_ext}
use mathlib.Core.Bool.{Bool, true, false, cond}
use Rattle.diagram.specs.Diagram.{Input, join}
use Rattle.diagram.proofs.Inputs.{join-below, join-from}
use Rattle.functions.specs.Functions.{Function, constant, choice, half, with_contact, tree, functions_of}
use Rattle.functions.proofs.Joined.{set_own, join-set, join-same}
use Rattle.functions.proofs.Places.{same_dec}

-- A tree of so many contacts, with 0 or 1 at each leaf.
abbrev pub Full : ℕ → Function → Type 0
Full zero (constant v) = v < 2
Full zero (choice f g) = ⊥
Full (suc left) (constant v) = ⊥
Full (suc left) (choice f g) = Full left f × Full left g

-- The value of a tree at an input, from contact l on.
unfoldable pub value_from : Function → Input → ℕ → ℕ
value_from (constant v) x l = v
value_from (choice f g) x l = cond (x l) (value_from g x (suc l)) (value_from f x (suc l))

-- What depends on the first n contacts alone and is 0 or 1.
pub record Values (n : ℕ) (w : Input → ℕ) : Type 0 where
  pub first : (x y : Input) → ((i : ℕ) → i < n → x i ≡ y i) → w x ≡ w y
  pub bit : (x : Input) → w x < 2

pub tree-full : (left l : ℕ) (w : Input → ℕ) (x : Input) → ((y : Input) → w y < 2) → Full left (tree left l w x)
unfolding tree
tree-full zero l w x bit = bit x
tree-full (suc left) l w x bit = (tree-full left (suc l) w (with_contact l false x) bit, tree-full left (suc l) w (with_contact l true x) bit)

pub half-tree : (b : Bool) (left l : ℕ) (w : Input → ℕ) (x : Input) →
    half b (tree (suc left) l w x) ≡ tree left (suc l) w (with_contact l b x)
unfolding tree
half-tree false left l w x = refl
half-tree true left l w x = refl

-- A function of contacts by its halves.
pub value-half : (left : ℕ) (f : Function) (x : Input) (l : ℕ) → Full (suc left) f →
    value_from (half (x l) f) x (suc l) ≡ value_from f x l
unfolding value_from
value-half left (constant v) x l h = absurd h
value-half left (choice f g) x l h = go (x l)
  where
    go : (b : Bool) → value_from (half b (choice f g)) x (suc l) ≡ cond b (value_from g x (suc l)) (value_from f x (suc l))
    go false = refl
    go true = refl

-- Trees over the contacts from l on: so many are left of n.
module _ (n : ℕ) (w : Input → ℕ) (v : Values n w) where
  pub tree-value : (left l : ℕ) (x y : Input) → l + left ≡ n → value_from (tree left l w x) y l ≡ w (join l x y)
  unfolding tree value_from
  tree-value zero l x y p = v.first x (join l x y) (λ i h. sym (join-below l x y i (omega arith)))
  tree-value (suc left) l x y p =
      sym (value-half left (tree (suc left) l w x) y l (tree-full (suc left) l w x v.bit))
      ∙ ap (λ (f : Function). value_from f y (suc l)) (half-tree (y l) left l w x)
      ∙ tree-value left (suc l) (with_contact l (y l) x) y (omega arith)
      ∙ ap w (join-set l (y l) x y ∙ ap (join l x) (set_own l y))

  pub whole-value : (x y : Input) → value_from (tree n 0 w x) y 0 ≡ w y
  whole-value x y = tree-value n 0 x y (omega arith) ∙ v.first (join 0 x y) y (λ i h. join-from 0 x y i (omega arith))

module _ (n : ℕ) (w w' : Input → ℕ) (v : Values n w) (v' : Values n w') where
  -- Trees with the same values are the same.
  pub tree-same : (left l : ℕ) (x x' : Input) → l + left ≡ n → ((y : Input) → w (join l x y) ≡ w' (join l x' y)) →
      tree left l w x ≡ tree left l w' x'
  unfolding tree
  tree-same zero l x x' p same =
      ap constant
      (v.first x (join l x x) (λ i h. sym (join-below l x x i (omega arith)))
      ∙ same x
      ∙ v'.first (join l x' x) x' (λ i h. join-below l x' x i (omega arith)))
  tree-same (suc left) l x x' p same =
      let each : (b : Bool) (y : Input) → w (join (suc l) (with_contact l b x) y) ≡ w' (join (suc l) (with_contact l b x') y) = λ b y.
      ap w (join-set l b x y) ∙ same (with_contact l b y) ∙ ap w' (sym (join-set l b x' y)) in
      ap₂ choice (tree-same left (suc l) (with_contact l false x) (with_contact l false x') (omega arith) (each false))
      (tree-same left (suc l) (with_contact l true x) (with_contact l true x') (omega arith) (each true))

  -- Trees that differ do so at some input.
  pub tree_apart : (left l : ℕ) (x x' : Input) → l + left ≡ n → (tree left l w x ≡ tree left l w' x' → ⊥) →
      (y : Input) × (w (join l x y) ≡ w' (join l x' y) → ⊥)
  unfolding tree
  tree_apart zero l x x' p ne = (
    x,
    λ e. ne (tree-same zero l x x' p (λ y.
        v.first (join l x y) (join l x x) (λ i h. join-below l x y i (omega arith) ∙ sym (join-below l x x i (omega arith)))
        ∙ e
        ∙ v'.first (join l x' x) (join l x' y) (λ i h. join-below l x' x i (omega arith) ∙ sym (join-below l x' y i (omega arith))))),
  )
  tree_apart (suc left) l x x' p ne =
      go (same_dec (part w x false) (part w' x' false)) (λ b. tree_apart left (suc l) (with_contact l b x) (with_contact l b x') (omega arith))
    where
      part : (Input → ℕ) → Input → Bool → Function
      part u z b = tree left (suc l) u (with_contact l b z)

      Apart : Type 0
      Apart = (y : Input) × (w (join l x y) ≡ w' (join l x' y) → ⊥)

      there : (b : Bool) → (y : Input) × (w (join (suc l) (with_contact l b x) y) ≡ w' (join (suc l) (with_contact l b x') y) → ⊥) → Apart
      there b (y, told) = (with_contact l b y, λ e. told (ap w (join-set l b x y) ∙ e ∙ ap w' (sym (join-set l b x' y))))

      go : Dec (part w x false ≡ part w' x' false) → ((b : Bool) → (part w x b ≡ part w' x' b → ⊥) →
          (y : Input) × (w (join (suc l) (with_contact l b x) y) ≡ w' (join (suc l) (with_contact l b x') y) → ⊥)) → Apart
      go (no other) rest = there false (rest false other)
      go (yes e) rest = there true (rest true (λ e'. ne (ap₂ choice e e')))

-- A tree depends on the contacts below its own alone.
pub tree-below : (n : ℕ) (w : Input → ℕ) → Values n w → (left l : ℕ) (x y : Input) → l + left ≡ n →
    ((i : ℕ) → i < l → x i ≡ y i) → tree left l w x ≡ tree left l w y
tree-below n w v left l x y p h =
    tree-same n w w v v left l x y p (λ z. ap w (join-same l x y z h))

pub functions-same : (n m : ℕ) (v v' : ℕ → Input → ℕ) → ((j : ℕ) → j < m → (x : Input) → v j x ≡ v' j x) →
    (j : ℕ) → j < m → functions_of n v j ≡ functions_of n v' j
functions-same n m v v' h j l = ap (λ (w : Input → ℕ). tree n 0 w (λ _. false)) (fun_ext (h j l))
