-- Questions 5 and 7 as the code asks them: of the mentions of each level.
use Prim.Native.Nat.{ℕ, suc, ◌<◌}
use mathlib.Core.Path.{◌≡◌, sym, ap, ◌∙◌}
use mathlib.Core.Bool.{Bool, cond}
use mathlib.Core.List.{List}
use borrow.Author.Tests.{lt-ltb}
use lib.Dec.{ltb}
use lib.ListN.{length, get_or}
use Rattle.std.specs.List.{list_all}
use Rattle.fields.specs.Bounded.{all, listed}
use Rattle.fields.proofs.Listed.{length-listed, listed_at}
use Rattle.diagram.specs.declared.Diagram.{Diagram}
use Rattle.diagram.specs.declared.sound.Range.TheVariants.{Within, Outside}
use Rattle.diagram.specs.declared.sound.Numbering.TheVariants.{InTurn, OutOfTurn}
use Rattle.diagram.specs.Diagram.{width}
use Rattle.diagram.specs.Inner.Fit.{Fit}
use Rattle.diagram.specs.Questions.{Sized, in_range, mention, mentions, in_turn, numbered, range_of, numbering_of}
use Rattle.diagram.proofs.Bytes.{all-front, all-listed}
use Rattle.diagram.proofs.Turns.{in_turn-agree}

pub width_is : (d : Diagram) (l : ℕ) → l < d.contacts → get_or d.widths l 0 ≡ width d l
unfolding width
width_is d l h = simp (lt-ltb _ _ h)

-- A diagram within the limits fits.
pub fit : {d : Diagram} → Sized d → Fit d
fit s = record { contacts = s.contacts; nodes = λ l h. (s.widths l h).1 }

module _ (d : Diagram) where
  -- Whether the mentions of a level name nodes that it has, and whether they name them in turn.
  abbrev pub named : ℕ → Bool
  named l = all (mentions d l) (λ k. ltb (mention d l k) (width d l))

  abbrev pub turned : ℕ → Bool
  turned l = in_turn (mention d l) (mentions d l) (width d l)

  range-is : all (suc d.contacts) named ≡ in_range d
  unfolding in_range mention mentions
  range-is = sym (all-front d.contacts named)

  pub range-by : {a : Bool} → a ≡ all (suc d.contacts) named → cond a Within Outside ≡ range_of d
  range-by e = ap (λ (t : Bool). cond t Within Outside) (e ∙ range-is)

  pub numbering-by : {a : Bool} → a ≡ all d.contacts turned → cond a InTurn OutOfTurn ≡ numbering_of d
  unfolding numbered
  numbering-by e = ap (λ (t : Bool). cond t InTurn OutOfTurn) e

  -- What the code asks of the bytes of a level.
  module _ (l w : ℕ) (e : w ≡ width d l) (bytes : List ℕ) (h : bytes ≡ listed (mention d l) (mentions d l) 0) where
    pub named-is : list_all (λ b. ltb b w) bytes ≡ named l
    named-is = rw (h, e) (all-listed (λ b. ltb b (width d l)) (mention d l) (mentions d l))

    pub turned-is : in_turn (λ k. get_or bytes k 0) (length bytes) w ≡ turned l
    turned-is =
        rw (h, e, length-listed (mention d l) (mentions d l) 0)
        (in_turn-agree (mentions d l) (width d l) (λ k. get_or (listed (mention d l) (mentions d l) 0) k 0) (mention d l)
        (λ k i. listed_at (mention d l) (mentions d l) k 0 i))
