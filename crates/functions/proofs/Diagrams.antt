-- The diagram that the table of some functions holds: its widths, and its mentions as the numbers of the functions mentioned.
use Prim.Native.Nat.{ℕ, zero, suc, ◌+◌, ◌*◌, ◌≤◌, ◌<◌}
use native.Mathlib.Omega.{arith}
use mathlib.Core.Path.{◌≡◌, refl, ap, ◌∙◌}
use mathlib.Core.Bool.{Bool, true}
use borrow.Author.Tests.{leb-true}
use lib.ListN.{length, get_or}
use Rattle.fields.proofs.Bounded.{all-at}
use Rattle.fields.proofs.Listed.{length-listed}
use Rattle.diagram.specs.declared.Diagram.{Diagram}
use Rattle.diagram.specs.Diagram.{width, bit, edge}
use Rattle.diagram.specs.Questions.{mention, mentions}
use Rattle.diagram.proofs.Paths.{width-last}
use Rattle.table.specs.Encode.{items_of}
use Rattle.table.specs.Table.{diagram_of}
use Rattle.table.proofs.Written.{Limits, root-back, width_back, edge-back}
use Rattle.functions.specs.Functions.{Function, constant, half, place, level_of, number_in, canonical, is_narrow}
use Rattle.functions.proofs.Levels.{mention_of, mentions_of, half_at_lem, edge-below, mention-in, level-some, mention-full}
use Rattle.functions.proofs.Numbers.{number-place, number_bit}
use Rattle.functions.proofs.Trees.{Full}

abbrev pub diagram_for : ℕ → ℕ → (ℕ → Function) → Diagram
diagram_for n m f = diagram_of (items_of (canonical n m f))

-- Levels of at most eight functions keep the limits.
pub limits : (n m : ℕ) (f : ℕ → Function) → (1 ≤ n) × (n ≤ 12) → (1 ≤ m) × (m ≤ 8) → is_narrow n m f ≡ true → Limits (canonical n m f)
unfolding is_narrow
limits n m f hn hm narrow =
    record {
      contacts = hn;
      outputs = hm;
      widths = λ l h. (level-some f m hm.0 l, leb-true _ _ (all-at _ n narrow l h));
    }

module _ (n m : ℕ) (f : ℕ → Function) (s : Limits (canonical n m f)) where
  pub contacts-is : (diagram_for n m f).contacts ≡ n
  unfolding diagram_of
  contacts-is = refl

  pub outputs-is : (diagram_for n m f).outputs ≡ m
  unfolding diagram_of
  outputs-is = length-listed (canonical n m f).root m 0

  pub width_is : (l : ℕ) → l < n → width (diagram_for n m f) l ≡ length (level_of f m l)
  width_is = width_back (canonical n m f) s

  pub width-end : width (diagram_for n m f) n ≡ 2
  unfolding diagram_of
  width-end = width-last (diagram_for n m f)

  pub mentions-is : (l : ℕ) → l ≤ n → mentions (diagram_for n m f) l ≡ mentions_of f m l
  unfolding mentions
  mentions-is zero h = outputs-is
  mentions-is (suc l) h = ap (λ (w : ℕ). 2 * w) (width_is l h)

  pub mention-is : (l k : ℕ) → l ≤ n → k < mentions_of f m l →
      mention (diagram_for n m f) l k ≡ number_in (level_of f m l) (mention_of f m l k)
  unfolding mention
  mention-is zero k h g = root-back (canonical n m f) s k g
  mention-is (suc l) k h g = edge-back (canonical n m f) s l k h g

  -- The edge of a node names a half of its function.
  pub edge-is : (l u : ℕ) (b : Bool) → l < n → u < length (level_of f m l) →
      edge (diagram_for n m f) l u b ≡ number_in (level_of f m (suc l)) (half b (get_or (level_of f m l) u (constant 0)))
  edge-is l u b h g =
      edge-back (canonical n m f) s l (2 * u + bit b) h (edge-below u (length (level_of f m l)) b g)
      ∙ ap (number_in (level_of f m (suc l))) (half_at_lem (level_of f m l) u b)

  module _ (full : (j : ℕ) → j < m → Full n (f j)) where
    -- Where contacts are left a mention is a place.
    pub mention-place : (l left k : ℕ) → l + suc left ≡ n → k < mentions_of f m l →
        number_in (level_of f m l) (mention_of f m l k) ≡ place (level_of f m l) (mention_of f m l k)
    mention-place l left k p h =
        number-place (level_of f m l) left (mention_of f m l k) (mention-full f m n full l (suc left) p k h)

    pub number-in : (l left k : ℕ) → l + left ≡ n → k < mentions_of f m l →
        number_in (level_of f m l) (mention_of f m l k) < width (diagram_for n m f) l
    number-in l zero k p h =
        let e : l ≡ n = omega arith in
        let b = number_bit (level_of f m l) (mention_of f m l k) (mention-full f m n full l zero p k h) in
        rw (ap (width (diagram_for n m f)) e ∙ width-end) b
    number-in l (suc left) k p h =
        rw (mention-place l left k p h, width_is l (omega arith)) (mention-in f m l k h)
