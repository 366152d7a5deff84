-- Question 11 by its tests.
use Prim.Native.Nat.{ℕ}
use native.Mathlib.Omega.{arith}
use mathlib.Core.Path.{◌≡◌, refl, sym, ap, ap₂, ◌∙◌}
use mathlib.Core.Bool.{Bool, true, false, not, ◌&&◌, ◌||◌, and-false}
use mathlib.Core.List.{List}
use borrow.Author.Tests.{leb-false, le-leb}
use lib.Dec.{leb, eqb}
use lib.ListN.{length}
use Rattle.fields.specs.Fields.{Item, Fields, item_in}
use Rattle.fields.specs.Refusals.{framing_number}
use Rattle.fields.proofs.Bounded.{and_left, and_right}
use Rattle.files.specs.Header.{contacts_of, contacts_in, has_parts}
use Rattle.files.specs.Inner.Row.{ends_within}
use Rattle.files.proofs.Heads.{counted}
use Rattle.files.proofs.Taking.{three-or-four}
use Rattle.std.specs.Prelude.{Some, None}
use Rattle.wiring.specs.Questions.{ends_in_lamp, form_of}

-- How a netlist ends, by its fourth field, if there is one, and by whether it ends after four.
abbrev pub may_be_lamp : List Item → Bool
may_be_lamp is = not (leb 4 (length is)) || has_parts 6 4 1 1 (item_in is 3)

by_cases : (four last lamp whole : Bool) → (four ≡ false → last ≡ true) →
    (whole && (not four || lamp && last)) ≡ ((not four || lamp) && (whole && last))
by_cases true last lamp true h = refl
by_cases true last lamp false h = sym (and-false lamp)
by_cases false last lamp whole h = ap (◌&&◌ whole) (sym (h refl))

ends_by : (fs : Fields) → (eqb (framing_number fs.framing) 0 && ends_in_lamp fs.items) ≡ (may_be_lamp fs.items && ends_within 4 fs)
ends_by fs =
    let n = length fs.items in
    let lamp = has_parts 6 4 1 1 (item_in fs.items 3) in
    let whole = eqb (framing_number fs.framing) 0 in
    ap (λ (b : Bool). whole && (b || lamp && leb n 4)) (three-or-four n (leb 4 n) refl)
    ∙ by_cases (leb 4 n) (leb n 4) lamp whole (λ e. le-leb n 4 (omega (arith, leb-false 4 n e)))

module _ (fs : Fields) where
  pub uncounted : contacts_in fs.items ≡ None → None ≡ form_of fs
  unfolding form_of
  uncounted e = simp (e, and-false)

  pub gates-misparted : has_parts 4 5 0 10602 (item_in fs.items 1) ≡ false → None ≡ form_of fs
  unfolding form_of
  gates-misparted e = simp (e, and-false)

  pub outputs-misparted : has_parts 5 4 1 8 (item_in fs.items 2) ≡ false → None ≡ form_of fs
  unfolding form_of
  outputs-misparted e = simp (e, and-false)

  broken-or-misended : (b : Bool) → eqb (framing_number fs.framing) 0 ≡ b → (b && ends_in_lamp fs.items) ≡ false → None ≡ form_of fs
  unfolding form_of
  broken-or-misended true w e = simp (e, and-false)
  broken-or-misended false w e = simp w

  pub unlit : may_be_lamp fs.items ≡ false → None ≡ form_of fs
  unlit e = broken-or-misended _ refl (ends_by fs ∙ ap (λ (b : Bool). b && ends_within 4 fs) e)

  pub unended : ends_within 4 fs ≡ false → None ≡ form_of fs
  unended e = broken-or-misended _ refl (ends_by fs ∙ ap (◌&&◌ (may_be_lamp fs.items)) e ∙ and-false (may_be_lamp fs.items))

  pub formed : {n : ℕ} → contacts_in fs.items ≡ Some n →
      has_parts 4 5 0 10602 (item_in fs.items 1) ≡ true → has_parts 5 4 1 8 (item_in fs.items 2) ≡ true →
      may_be_lamp fs.items ≡ true → ends_within 4 fs ≡ true → Some n ≡ form_of fs
  unfolding form_of
  formed {n} e p q l m =
      let whole = eqb (framing_number fs.framing) 0 in
      let ends = ends_in_lamp fs.items in
      let both : (whole && ends) ≡ true = ends_by fs ∙ ap₂ ◌&&◌ l m in
      ap Some (sym (ap (λ (is : List Item). contacts_of is) (counted fs.items n e).split))
      ∙ simp (and_left whole ends both, e, p, q, and_right whole ends both)
