-- Which holds a site sees: those that name it, in whichever list they stand.
use native.Mathlib.Omega.{arith}
use Prim.Native.Nat.{ℕ, ◌+◌, ◌≤◌, ◌<◌}
use mathlib.Core.Path.{◌≡◌, refl, ap, ap₂, ◌∙◌}
use mathlib.Core.Bool.{Bool, true, false, ◌&&◌, cond, not}
use mathlib.Core.List.{List, [], ◌∷◌, ◌++◌}
use borrow.Author.Tests.{eqb-true, leb-true, leb-false, ltb-true, le-leb, lt-ltb, ne_eqb, not-true}
use lib.Dec.{eqb, leb, ltb}
use lib.ListN.{length, length-append}
use Rattle.fields.proofs.Bounded.{and_left, and_right}
use Rattle.fields.proofs.Every.{Every}
use Rattle.netlist.specs.declared.Hold.{Hold}
use Rattle.netlist.specs.Netlist.{site_of, level_of}
use Rattle.simulation.specs.Run.{Driver, rail, gate, drive, work_out, gate_of, held, holding}
use Rattle.steps.specs.Steps.{passing, counted_in}
use Rattle.steps.proofs.Passing.{all-passing}

pub held-append : (hs ks : List Hold) (x s v : ℕ) → held (hs ++ ks) x s v ≡ held hs x s (held ks x s v)
unfolding held
held-append [] ks x s v = refl
held-append (h ∷ hs) ks x s v = ap (cond (eqb h.line x && eqb (site_of h) s) (level_of h)) (held-append hs ks x s v)

module _ (from to : ℕ) where
  -- The test of a hold that counts, and what it says.
  abbrev pub inside : Hold → Bool
  inside h = leb from h.line && ltb h.line to

  pub inside_is : (h : Hold) → inside h ≡ true → (from ≤ h.line) × (h.line < to)
  inside_is h e =
      let a = leb from h.line in
      let b = ltb h.line to in
      (leb-true _ _ (and_left a b e), ltb-true _ _ (and_right a b e))

  pub counted-within : (hs : List Hold) → Every (λ (h : Hold). (from ≤ h.line) × (h.line < to)) (counted_in from to hs)
  counted-within = all-passing inside (λ h. (from ≤ h.line) × (h.line < to)) inside_is

  module _ (x s v : ℕ) (l : from ≤ x) (g : x < to) where
    seen_alike : (h : Hold) (hs ks : List Hold) (b c : Bool) → eqb h.line x ≡ b → inside h ≡ c → held hs x s v ≡ held ks x s v →
        held (cond c (h ∷ hs) hs) x s v ≡ held (h ∷ ks) x s v
    unfolding held
    seen_alike h hs ks b true e f rest = ap (cond (eqb h.line x && eqb (site_of h) s) (level_of h)) rest
    seen_alike h hs ks false false e f rest = rw e rest
    seen_alike h hs ks true false e f rest =
        let at = eqb-true h.line x e in
        let yes! : inside h ≡ true = rw (le-leb from h.line (rw at l), lt-ltb h.line to (rw at g)) in
        absurd (let z : ◌≡◌ {A = ℕ} 0 1 = cc in omega arith)

    -- A line that a step works out sees what the step's list says.
    pub held-within : (hs : List Hold) → held (counted_in from to hs) x s v ≡ held hs x s v
    unfolding passing
    held-within [] = refl
    held-within (h ∷ hs) = seen_alike h (counted_in from to hs) hs (eqb h.line x) (inside h) refl refl (held-within hs)

-- Holds of lines, and holds of pins.
abbrev pub of_line : Hold → Bool
of_line h = leb h.value 1

abbrev pub of_pin : Hold → Bool
of_pin h = not (of_line h)

pub is-line : (h : Hold) → of_line h ≡ true → h.value ≤ 1
is-line h = leb-true h.value 1

pub is-pin : (h : Hold) → of_pin h ≡ true → 1 < h.value
is-pin h e = leb-false h.value 1 (not-true (of_line h) e)

-- A pin sees no hold of a line.
pin-sees : (hs : List Hold) (x s v : ℕ) → Every (λ (h : Hold). h.value ≤ 1) hs → 1 ≤ s → held hs x s v ≡ v
unfolding held
pin-sees [] x s v e l = refl
pin-sees (h ∷ hs) x s v e l =
    ap (λ (b : Bool). cond (eqb h.line x && b) (level_of h) (held hs x s v)) (ne_eqb (site_of h) s (λ z. omega (arith, e.0)))
    ∙ no_more (eqb h.line x) (pin-sees hs x s v e.1 l)
  where
    no_more : (b : Bool) → held hs x s v ≡ v → cond (b && false) (level_of h) (held hs x s v) ≡ v
    no_more true rest = rest
    no_more false rest = rest

-- With the lines' holds before the pins' every site sees what it saw.
module _ (x s v : ℕ) where
  abbrev lines : List Hold → List Hold
  lines = passing of_line

  abbrev pins : List Hold → List Hold
  pins = passing of_pin

  apart : (h : Hold) (hs : List Hold) (b c : Bool) → of_line h ≡ b → (eqb h.line x && eqb (site_of h) s) ≡ c →
      held (lines hs) x s (held (pins hs) x s v) ≡ held hs x s v →
      held (cond b (h ∷ lines hs) (lines hs)) x s (held (cond (not b) (h ∷ pins hs) (pins hs)) x s v) ≡ held (h ∷ hs) x s v
  unfolding held
  apart h hs true c e f rest = ap (cond (eqb h.line x && eqb (site_of h) s) (level_of h)) rest
  apart h hs false false e f rest = rw f rest
  apart h hs false true e f rest =
      let at = eqb-true (site_of h) s (and_right (eqb h.line x) (eqb (site_of h) s) f) in
      rw f (pin-sees (lines hs) x s (level_of h) (all-passing of_line (λ h. h.value ≤ 1) is-line hs)
      (omega (arith, leb-false h.value 1 e)))

  both : (hs : List Hold) → held (lines hs) x s (held (pins hs) x s v) ≡ held hs x s v
  unfolding passing held
  both [] = refl
  both (h ∷ hs) = apart h hs (of_line h) (eqb h.line x && eqb (site_of h) s) refl refl (both hs)

  pub held-apart : (hs : List Hold) → held (passing of_line hs ++ passing of_pin hs) x s v ≡ held hs x s v
  held-apart hs = held-append (lines hs) (pins hs) x s v ∙ both hs

-- Two hold lists that the lines worked out see alike give the same values.
drive-agree : (hs ks : List Hold) (vs : List ℕ) → ((s v : ℕ) → held hs (length vs) s v ≡ held ks (length vs) s v) → (d : Driver ℕ) →
    drive (holding hs) vs d ≡ drive (holding ks) vs d
unfolding drive
drive-agree hs ks vs same (rail a) = refl
drive-agree hs ks vs same (gate g) = ap₂ (gate_of g.kind) (same 1 _) (same 2 _)

pub hold-agree : (hs ks : List Hold) (ds : List (Driver ℕ)) (vs : List ℕ) →
    ((x s v : ℕ) → length vs ≤ x → x < length vs + length ds → held hs x s v ≡ held ks x s v) →
    work_out (holding hs) ds vs ≡ work_out (holding ks) ds vs
unfolding work_out
hold-agree hs ks [] vs same = refl
hold-agree hs ks (d ∷ ds) vs same =
    let here : (s v : ℕ) → held hs (length vs) s v ≡ held ks (length vs) s v = λ s v. same (length vs) s v (omega arith) (omega arith) in
    let shown = ap (held hs (length vs) 0) (drive-agree hs ks vs here d) ∙ here 0 _ in
    let new : List ℕ = vs ++ (held ks (length vs) 0 (drive (holding ks) vs d) ∷ []) in
    let longer : length new ≡ length vs + 1 = length-append vs _ in
    ap (λ (v : ℕ). work_out (holding hs) ds (vs ++ (v ∷ []))) shown
    ∙ hold-agree hs ks ds new (λ x s v l g. same x s v (omega arith) (omega arith))
