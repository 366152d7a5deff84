-- Diagrams with the same contacts, outputs and functions that pass questions 5 to 7 are the same.
use Prim.Native.Nat.{ℕ, zero, suc, ◌+◌, ◌*◌, ◌-◌, max, ◌≤◌, ◌<◌}
use native.Mathlib.Decide.{dec_lt}
use native.Mathlib.Nat.{eq-or-lt_of_le, le_of_suc-le-suc}
use native.Mathlib.Omega.{arith}
use mathlib.Core.Path.{◌≡◌, refl, sym, ap, ap₂, ◌∙◌}
use mathlib.Core.Bool.{true, false}
use mathlib.Core.Logic.{⊎_elim}
use Rattle.diagram.specs.declared.Diagram.{Diagram}
use Rattle.diagram.specs.Diagram.{width, edge_at, root, Input, path, value_at, join}
use Rattle.diagram.specs.Questions.{in_range, distinct, mention, mentions, brought, numbered}
use Rattle.diagram.proofs.Paths.{place, path-first, width-last, root_in, edge_at-in}
use Rattle.diagram.proofs.Reached.{InTurn, found, in-turn, brings, mentioned}
use Rattle.diagram.proofs.Apart.{one-node}

-- Where f repeats a number, so does g.
abbrev Repeats : (ℕ → ℕ) → (ℕ → ℕ) → ℕ → Type 0
Repeats f g k = (i j : ℕ) → i < k → j < k → f i ≡ f j → g i ≡ g j

record Agree (f g : ℕ → ℕ) (k : ℕ) : Type 0 where
  same : (i : ℕ) → i < k → f i ≡ g i
  end : brought f k ≡ brought g k

-- Two rows of numbers, both numbered by first mention, that repeat at the same places are the same.
agree : (f g : ℕ → ℕ) (k : ℕ) → InTurn f k → InTurn g k → Repeats f g k → Repeats g f k → Agree f g k
unfolding brought
agree f g zero tf tg fg gf = record { same = λ i h. absurd (omega arith); end = refl }
agree f g (suc k) tf tg fg gf =
    go (agree f g k (λ i h. tf i (omega arith)) (λ i h. tg i (omega arith))
    (λ i j h h'. fg i j (omega arith) (omega arith)) (λ i j h h'. gf i j (omega arith) (omega arith)))
  where
    last : Agree f g k → Dec (f k < brought f k) → Dec (g k < brought g k) → f k ≡ g k
    last a (yes h) q =
        let (i, l, e) = found f k (λ i l. tf i (omega arith)) (f k) h in
        sym e ∙ a.same i l ∙ fg i k (omega arith) (omega arith) e
    last a (no h) (yes h') =
        let (i, l, e) = found g k (λ i l. tg i (omega arith)) (g k) h' in
        gf k i (omega arith) (omega arith) (sym e) ∙ a.same i l ∙ e
    last a (no h) (no h') = omega (arith, a.end, tf k (omega arith), tg k (omega arith))

    go : Agree f g k → Agree f g (suc k)
    go a =
        let t = last a (dec_lt (f k) (brought f k)) (dec_lt (g k) (brought g k)) in
        record {
          same = λ i h. ⊎_elim (λ q. ap f q ∙ t ∙ ap g (sym q)) (a.same i) (eq-or-lt_of_le (le_of_suc-le-suc h));
          end = ap₂ max a.end (ap suc t);
        }

-- The same outputs, widths and edges.
pub record Same (d e : Diagram) : Type 0 where
  pub roots : (j : ℕ) → j < d.outputs → root d j ≡ root e j
  pub widths : (l : ℕ) → l ≤ d.contacts → width d l ≡ width e l
  pub edges : (l k : ℕ) → l < d.contacts → k < 2 * width d l → edge_at d l k ≡ edge_at e l k

-- A diagram that passes questions 5 to 7.
pub record Reduced (d : Diagram) : Type 0 where
  pub ranged : in_range d ≡ true
  pub differing : distinct d ≡ true
  pub counted : numbered d ≡ true

-- Node u of d and node v of e, with so many levels left, have the same function.
abbrev SameFunction : Diagram → Diagram → ℕ → ℕ → ℕ → ℕ → Type 0
SameFunction d e left l u v = (x : Input) → path d x left l u ≡ path e x left l v

-- A mention names a node that its level has.
mention-in : (d : Diagram) → Reduced d → (l k : ℕ) → l ≤ d.contacts → k < mentions d l → mention d l k < width d l
unfolding mention mentions
mention-in d r zero k h i = root_in d r.ranged k i
mention-in d r (suc l) k h i = edge_at-in d r.ranged l k h i

-- Nodes that one diagram mentions at two places are one node in the other, since they have one function.
repeats : (d e : Diagram) → Reduced e → (left l k : ℕ) → l + left ≡ e.contacts → k ≤ mentions e l →
    ((i : ℕ) → i < k → SameFunction d e left l (mention d l i) (mention e l i)) → Repeats (mention d l) (mention e l) k
repeats d e r left l k p m s i j hi hj q =
    one-node e r.ranged r.differing left l (mention e l i) (mention e l j) p
    (mention-in e r l i (omega arith) (omega arith)) (mention-in e r l j (omega arith) (omega arith))
    (λ x. sym (s i hi x) ∙ ap (path d x left l) q ∙ s j hj x)

module _ (d e : Diagram) (rd : Reduced d) (re : Reduced e) (n : d.contacts ≡ e.contacts) where
  -- What the two diagrams share at a level.
  record Level (left l : ℕ) : Type 0 where
    widths : width d l ≡ width e l
    named : (k : ℕ) → k < mentions d l → mention d l k ≡ mention e l k
    functions : (u : ℕ) → u < width d l → SameFunction d e left l u u

  -- Mentions of the same functions give the same level.
  level : (left l : ℕ) → l + left ≡ d.contacts → mentions d l ≡ mentions e l →
      ((k : ℕ) → k < mentions d l → SameFunction d e left l (mention d l k) (mention e l k)) → Level left l
  unfolding path
  level zero l p m s =
      let q : l ≡ d.contacts = omega arith in
      let q' : l ≡ e.contacts = omega arith in
      record {
        widths = cc (width-last d, width-last e);
        named = λ k h. s k h (λ _. false);
        functions = λ u h x. refl;
      }
  level (suc left) l p m s =
      let a = agree (mention d l) (mention e l) (mentions d l) (in-turn d rd.counted l (omega arith))
      (λ i h. in-turn e re.counted l (omega arith) i (omega arith))
      (repeats d e re (suc left) l (mentions d l) (omega arith) (omega arith) s)
      (repeats e d rd (suc left) l (mentions d l) p (omega arith) (λ i h x. sym (s i h x))) in
      record {
        widths =
            sym (brings d rd.counted l (omega arith)) ∙ a.end ∙ ap (brought (mention e l)) m
            ∙ brings e re.counted l (omega arith);
        named = a.same;
        functions = λ u h x.
            let (k, i, names) = mentioned d rd.counted l (omega arith) u h in
            ap (path d x (suc left) l) (sym names) ∙ s k i x ∙ ap (path e x (suc left) l) (sym (a.same k i) ∙ names);
      }

  module _ (m : d.outputs ≡ e.outputs)
      (values : (x : Input) (j : ℕ) → j < d.outputs → value_at d x j ≡ value_at e x j) where
    levels : (l left : ℕ) → l + left ≡ d.contacts → Level left l
    unfolding value_at mention mentions
    levels zero left p =
        let q : d.contacts ≡ left = omega arith in
        let q' : e.contacts ≡ left = omega arith in
        level left 0 p m (λ j h x. cc (values x j h))
    levels (suc l) left p =
        let above = levels l (suc left) (omega arith) in
        level left (suc l) p (ap (λ w. 2 * w) above.widths) (λ k h x.
        let (u, b, q) = place k in
        rw q
        (sym (path-first d x b left l u)
        ∙ above.functions u (omega arith) (join (suc l) (λ _. b) x)
        ∙ path-first e x b left l u))

    pub unique : Same d e
    unfolding mention mentions
    unique =
        record {
          roots = (levels 0 d.contacts (omega arith)).named;
          widths = λ l h. (levels l (d.contacts - l) (omega arith)).widths;
          edges = λ l k h. (levels (suc l) (d.contacts - suc l) (omega arith)).named k;
        }
