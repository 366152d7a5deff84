-- The functions of a level: what mentions them, how deep they are, and which fixings of the contacts leave them.
use Prim.Native.Nat.{ℕ, zero, suc, ◌+◌, ◌*◌, ◌/◌, ◌%◌, ◌≤◌, ◌<◌}
use native.Mathlib.Omega.{arith}
use mathlib.Core.Path.{◌≡◌, ap, ◌∙◌}
use mathlib.Core.Bool.{Bool, true, false}
use mathlib.Core.List.{List}
use borrow.Author.Tests.{eq-eqb, ne_eqb}
use lib.Dec.{eqb}
use lib.ListN.{length, get_or}
use Rattle.diagram.specs.Diagram.{bit, Input}
use Rattle.diagram.specs.Questions.{brought}
use Rattle.functions.specs.Functions.{Function, constant, choice, half, with_contact, tree, functions_of, place, firsts, half_at, level_of}
use Rattle.functions.proofs.Firsts.{firsts_same, place_in, place-own, firsts-from, in-turn, all-brought}
use Rattle.functions.proofs.Joined.{set_own}
use Rattle.functions.proofs.Places.{place_is}
use Rattle.functions.proofs.Trees.{Full, Values, tree-full, half-tree, tree-below}

-- The mentions of a level, and how many they are.
abbrev pub mention_of : (ℕ → Function) → ℕ → ℕ → ℕ → Function
mention_of f m zero k = f k
mention_of f m (suc l) k = half_at (level_of f m l) k

abbrev pub mentions_of : (ℕ → Function) → ℕ → ℕ → ℕ
mentions_of f m zero = m
mentions_of f m (suc l) = 2 * length (level_of f m l)

-- Functions that agree below m.
pub level-same : (f g : ℕ → Function) (m : ℕ) → ((j : ℕ) → j < m → f j ≡ g j) → (l : ℕ) → level_of f m l ≡ level_of g m l
unfolding level_of
level-same f g m h zero = firsts_same f g m h
level-same f g m h (suc l) = ap (λ (fs : List Function). firsts (half_at fs) (2 * length fs)) (level-same f g m h l)

-- The edge of a node is a half of its function.
pub half_at_lem : (fs : List Function) (u : ℕ) (b : Bool) → half_at fs (2 * u + bit b) ≡ half b (get_or fs u (constant 0))
half_at_lem fs u false =
    let e : (2 * u + 0) / 2 ≡ u = omega arith in
    simp (ne_eqb ((2 * u + 0) % 2) 1 (λ p. omega arith), e)
half_at_lem fs u true =
    let e : (2 * u + 1) / 2 ≡ u = omega arith in
    simp (eq-eqb ((2 * u + 1) % 2) 1 (omega arith), e)

pub edge-below : (u w : ℕ) (b : Bool) → u < w → 2 * u + bit b < 2 * w
edge-below u w false h = omega arith
edge-below u w true h = omega arith

pub half_full : (b : Bool) (left : ℕ) (f : Function) → Full (suc left) f → Full left (half b f)
half_full b left (constant v) h = absurd h
half_full false left (choice f g) h = h.0
half_full true left (choice f g) h = h.1

module _ (f : ℕ → Function) (m : ℕ) where
  -- Each mention is in its level, and each function of a level is mentioned.
  pub mention-in : (l k : ℕ) → k < mentions_of f m l → place (level_of f m l) (mention_of f m l k) < length (level_of f m l)
  unfolding level_of
  mention-in zero k h = place_in f k m h
  mention-in (suc l) k h = place_in (half_at (level_of f m l)) k (2 * length (level_of f m l)) h

  pub level-from : (l u : ℕ) (d : Function) → u < length (level_of f m l) →
      (k : ℕ) × (k < mentions_of f m l) × (mention_of f m l k ≡ get_or (level_of f m l) u d)
  unfolding level_of
  level-from zero u d h = firsts-from f m u d h
  level-from (suc l) u d h = firsts-from (half_at (level_of f m l)) (2 * length (level_of f m l)) u d h

  -- Each is where it is found.
  pub level-own : (l u : ℕ) (d : Function) → u < length (level_of f m l) → place (level_of f m l) (get_or (level_of f m l) u d) ≡ u
  unfolding level_of
  level-own zero u d h = place-own f m u d h
  level-own (suc l) u d h = place-own (half_at (level_of f m l)) (2 * length (level_of f m l)) u d h

  -- A level is numbered by first mention.
  pub level-in-turn : (l k : ℕ) → k < mentions_of f m l →
      place (level_of f m l) (mention_of f m l k) ≤ brought (λ i. place (level_of f m l) (mention_of f m l i)) k
  unfolding level_of
  level-in-turn zero k h = in-turn f k m h
  level-in-turn (suc l) k h = in-turn (half_at (level_of f m l)) k (2 * length (level_of f m l)) h

  pub level-brought : (l : ℕ) →
      brought (λ i. place (level_of f m l) (mention_of f m l i)) (mentions_of f m l) ≡ length (level_of f m l)
  unfolding level_of
  level-brought zero = all-brought f m
  level-brought (suc l) = all-brought (half_at (level_of f m l)) (2 * length (level_of f m l))

  -- No level is empty.
  pub level-some : 1 ≤ m → (l : ℕ) → 1 ≤ length (level_of f m l)
  level-some h zero = let i = mention-in 0 0 h in omega arith
  level-some h (suc l) =
      let some = level-some h l in
      let i = mention-in (suc l) 0 (omega arith) in
      omega arith

  -- The halves of a function of a level are in the next.
  pub half_in : (l : ℕ) (g : Function) (b : Bool) → place (level_of f m l) g < length (level_of f m l) →
      place (level_of f m (suc l)) (half b g) < length (level_of f m (suc l))
  half_in l g b h =
      let u = place (level_of f m l) g in
      let e = half_at_lem (level_of f m l) u b ∙ ap (half b) (place_is (level_of f m l) g (constant 0) h) in
      rw e at (mention-in (suc l) (2 * u + bit b) (edge-below u (length (level_of f m l)) b h))

  -- Functions of n contacts leave functions of the contacts that are left.
  module _ (n : ℕ) (full : (j : ℕ) → j < m → Full n (f j)) where
    pub mention-full : (l left : ℕ) → l + left ≡ n → (k : ℕ) → k < mentions_of f m l → Full left (mention_of f m l k)
    mention-full zero left p k h = let e : left ≡ n = omega arith in rw e (full k h)
    mention-full (suc l) left p k h =
        let (i, g, e) = level-from l (k / 2) (constant 0) (omega arith) in
        half_full (eqb (k % 2) 1) left (get_or (level_of f m l) (k / 2) (constant 0)) (rw e at (mention-full l (suc left) (omega arith) i g))

    pub level-full : (l left : ℕ) → l + left ≡ n → (u : ℕ) (d : Function) → u < length (level_of f m l) →
        Full left (get_or (level_of f m l) u d)
    level-full l left p u d h =
        let (k, g, e) = level-from l u d h in
        rw e at (mention-full l left p k g)

-- What a fixing of the contacts below l leaves of one of m functions.
abbrev pub Remains : ℕ → (ℕ → Input → ℕ) → ℕ → ℕ → Function → Type 0
Remains m v l left g = (j : ℕ) × (j < m) × (x : Input) × (g ≡ tree left l (v j) x)

-- The functions of given values: those of a level are what fixings of the contacts before it leave.
module _ (n m : ℕ) (v : ℕ → Input → ℕ) (values : (j : ℕ) → j < m → Values n (v j)) where
  pub functions-full : (j : ℕ) → j < m → Full n (functions_of n v j)
  functions-full j h = tree-full n 0 (v j) (λ _. false) (values j h).bit

  half-remains : (l left : ℕ) (g : Function) (b : Bool) → Remains m v l (suc left) g → Remains m v (suc l) left (half b g)
  half-remains l left g b (j, h, x, e) = (j, h, with_contact l b x, ap (half b) e ∙ half-tree b left l (v j) x)

  mention-remains : (l left k : ℕ) → l + left ≡ n → k < mentions_of (functions_of n v) m l →
      Remains m v l left (mention_of (functions_of n v) m l k)
  mention-remains zero left k p h =
      let e : n ≡ left = omega arith in
      (k, h, λ _. false, ap (λ (i : ℕ). tree i 0 (v k) (λ _. false)) e)
  mention-remains (suc l) left k p h =
      let (i, g, e) = level-from (functions_of n v) m l (k / 2) (constant 0) (omega arith) in
      half-remains l left (get_or (level_of (functions_of n v) m l) (k / 2) (constant 0)) (eqb (k % 2) 1)
      (rw e at (mention-remains l (suc left) i (omega arith) g))

  pub level-remains : (l left u : ℕ) (d : Function) → l + left ≡ n → u < length (level_of (functions_of n v) m l) →
      Remains m v l left (get_or (level_of (functions_of n v) m l) u d)
  level-remains l left u d p h =
      let (k, g, e) = level-from (functions_of n v) m l u d h in
      rw e at (mention-remains l left k p g)

  pub level-has : (l left j : ℕ) (x : Input) → l + left ≡ n → j < m →
      place (level_of (functions_of n v) m l) (tree left l (v j) x) < length (level_of (functions_of n v) m l)
  level-has zero left j x p h =
      let e : left ≡ n = omega arith in
      rw (e, tree-below n (v j) (values j h) n 0 x (λ _. false) (omega arith) (λ i g. absurd (omega arith)))
      (mention-in (functions_of n v) m 0 j h)
  level-has (suc l) left j x p h =
      let e = half-tree (x l) left l (v j) x ∙ ap (tree left (suc l) (v j)) (set_own l x) in
      rw e at
      (half_in (functions_of n v) m l (tree (suc left) l (v j) x) (x l) (level-has l (suc left) j x (omega arith) h))
