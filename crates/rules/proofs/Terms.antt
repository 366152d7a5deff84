-- A term shows 1 exactly if both its factors do, and the lines among some terms show what those terms show.
use Prim.Native.Nat.{ℕ, zero, suc, ◌<◌}
use native.Mathlib.Omega.{arith}
use mathlib.Core.Path.{◌≡◌, refl}
use mathlib.Core.Bool.{false, ◌&&◌, true≢false}
use mathlib.Core.List.{List, [], ◌∷◌}
use lib.ListN.{length, get_or}
use Rattle.netlist.specs.declared.Gate.{Gate}
use Rattle.rules.specs.declared.Entry.{Entry}
use Rattle.rules.specs.declared.Entry.TheVariants.{Never, Always, Line}
use Rattle.rules.specs.Blocks.{term, is_always, lines_in}
use Rattle.rules.proofs.Makes.{Ok, ok-return, ok-bind, ok-gate}
use Rattle.rules.proofs.Valuations.{Down, Up, shows}
use Rattle.rules.proofs.Trees.{Some}

-- A term is always only if both factors are.
pub term-always : (P : ℕ → Gate → Type 0) (x y : Entry) →
    Ok P (term x y) (λ t. is_always t ≡ (is_always x && is_always y))
unfolding term
term-always P Never y = ok-return refl
term-always P Always y = ok-return refl
term-always P (Line a) Never = ok-return refl
term-always P (Line a) Always = ok-return refl
term-always P (Line a) (Line b) = ok-bind {R = λ _. ℕ} (ok-gate (λ x _. x)) (λ x _. ok-return refl)

module _ (ν : ℕ → ℕ) where
  pub term-down : (x y : Entry) → Ok (Down ν) (term x y) (λ t. shows ν t ≡ 1 → (shows ν x ≡ 1) × (shows ν y ≡ 1))
  unfolding term
  term-down Never y = ok-return (λ e. absurd (omega arith))
  term-down Always y = ok-return (λ e. (refl, e))
  term-down (Line a) Never = ok-return (λ e. absurd (omega arith))
  term-down (Line a) Always = ok-return (λ e. (e, refl))
  term-down (Line a) (Line b) = ok-bind (ok-gate (λ x down. down)) (λ x down. ok-return down)

  pub term_up : (x y : Entry) → Ok (Up ν) (term x y) (λ t. shows ν x ≡ 1 → shows ν y ≡ 1 → shows ν t ≡ 1)
  unfolding term
  term_up Never y = ok-return (λ e _. e)
  term_up Always y = ok-return (λ _ e. e)
  term_up (Line a) Never = ok-return (λ _ e. e)
  term_up (Line a) Always = ok-return (λ e _. e)
  term_up (Line a) (Line b) = ok-bind (ok-gate (λ x up. up)) (λ x up. ok-return (λ e e'. up (e, e')))

  pub lines-down : (ts : List Entry) → Some ν (length (lines_in ts)) (lines_in ts) →
      (w : ℕ) × (w < length ts) × (shows ν (get_or ts w Never) ≡ 1)
  lines-down [] (i, h, e) = absurd (omega arith)
  lines-down (Never ∷ ts) s = let (w, h, e) = lines-down ts s in (suc w, omega arith, e)
  lines-down (Always ∷ ts) s = (0, omega arith, refl)
  lines-down (Line x ∷ ts) (zero, h, e) = (0, omega arith, e)
  lines-down (Line x ∷ ts) (suc i, h, e) =
      let (w, h', e') = lines-down ts (i, omega arith, e) in (suc w, omega arith, e')

  later : (t : Entry) (ts : List Entry) → Some ν (length (lines_in ts)) (lines_in ts) →
      Some ν (length (lines_in (t ∷ ts))) (lines_in (t ∷ ts))
  later Never ts s = s
  later Always ts s = s
  later (Line x) ts (i, h, e) = (suc i, omega arith, e)

  pub lines-up : (ts : List Entry) (w : ℕ) → w < length ts → is_always (get_or ts w Never) ≡ false →
      shows ν (get_or ts w Never) ≡ 1 → Some ν (length (lines_in ts)) (lines_in ts)
  lines-up [] w h a e = absurd (omega arith)
  lines-up (Never ∷ ts) zero h a e = absurd (omega arith)
  lines-up (Always ∷ ts) zero h a e = absurd (true≢false a)
  lines-up (Line x ∷ ts) zero h a e = (0, omega arith, e)
  lines-up (t ∷ ts) (suc w) h a e = later t ts (lines-up ts w (omega arith) a e)
