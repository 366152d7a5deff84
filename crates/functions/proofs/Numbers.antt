-- The number of a function in its level: it is below the level's width, and tells its functions apart.
use Prim.Native.Nat.{ℕ, zero, suc, ◌<◌}
use mathlib.Core.Path.{◌≡◌, refl, sym, ap, ap₂, ◌∙◌}
use mathlib.Core.Bool.{true, false}
use mathlib.Core.List.{List}
use lib.ListN.{length, get_or}
use Rattle.functions.specs.Functions.{Function, constant, choice, half, place, number_in}
use Rattle.functions.proofs.Places.{place_is}
use Rattle.functions.proofs.Trees.{Full}

-- Of a function with contacts left it is the place, of a constant its value.
pub number-place : (fs : List Function) (left : ℕ) (g : Function) → Full (suc left) g → number_in fs g ≡ place fs g
number-place fs left (constant v) h = absurd h
number-place fs left (choice f g) h = refl

pub number_bit : (fs : List Function) (g : Function) → Full zero g → number_in fs g < 2
number_bit fs (constant v) h = h
number_bit fs (choice f g) h = absurd h

-- Functions of one place are the same.
pub place_same : (fs : List Function) (g h : Function) → place fs g < length fs → place fs h < length fs →
    place fs g ≡ place fs h → g ≡ h
place_same fs g h hg hh e =
    sym (place_is fs g (constant 0) hg) ∙ ap (λ (u : ℕ). get_or fs u (constant 0)) e ∙ place_is fs h (constant 0) hh

constants-same : (fs : List Function) (g h : Function) → Full zero g → Full zero h → number_in fs g ≡ number_in fs h → g ≡ h
constants-same fs (constant v) (constant w) a b e = ap constant e
constants-same fs (constant v) (choice h k) a b e = absurd b
constants-same fs (choice f g) h a b e = absurd a

pub number_same : (fs : List Function) (left : ℕ) (g h : Function) → Full left g → Full left h →
    place fs g < length fs → place fs h < length fs → number_in fs g ≡ number_in fs h → g ≡ h
number_same fs zero g h a b hg hh e = constants-same fs g h a b e
number_same fs (suc left) g h a b hg hh e =
    place_same fs g h hg hh (sym (number-place fs left g a) ∙ e ∙ number-place fs left h b)

-- Functions with the same halves are the same.
pub halves-same : (left : ℕ) (g h : Function) → Full (suc left) g → Full (suc left) h → half false g ≡ half false h →
    half true g ≡ half true h → g ≡ h
halves-same left (constant v) h a b p q = absurd a
halves-same left (choice f g) (constant w) a b p q = absurd b
halves-same left (choice f g) (choice h k) a b p q = ap₂ choice p q
