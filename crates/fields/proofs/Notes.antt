-- Fields but the notes, and files without them.
use Prim.Native.Nat.{ℕ, ◌<◌}
use mathlib.Core.Path.{◌≡◌, refl, sym, ap, ◌∙◌}
use mathlib.Core.Bool.{Bool, true, false, cond}
use mathlib.Core.List.{List, [], ◌∷◌}
use borrow.Author.Tests.{leb-false, lt-leb}
use Rattle.fields.specs.declared.Framing.{Framing}
use Rattle.fields.specs.declared.Framing.TheVariants.{Whole}
use Rattle.fields.specs.Fields.{Item, is_note, but_notes, raw_fields_from, fields_from, fields_of, encoded}
use Rattle.fields.specs.Promises.{NotesPassedOver}
use Rattle.fields.proofs.Encoding.{row-is-read}
use Rattle.fields.proofs.Every.{Every, every-by, every-weaken}

-- A field that is no note.
abbrev pub Plain : Item → Type 0
Plain i = i.tag < 128

module _ (P : Item → Type 0) where
  -- Every field but the notes is none, and has what every field has.
  but-notes : (is : List Item) → Every P is → Every (λ (i : Item). Plain i × P i) (but_notes is)
  unfolding but_notes
  but-notes [] h = tt
  but-notes (i ∷ is) h = go (is_note i.tag) refl (but-notes is h.1)
    where
      go : (b : Bool) → is_note i.tag ≡ b → Every (λ (j : Item). Plain j × P j) (but_notes is) →
          Every (λ (j : Item). Plain j × P j) (cond b (but_notes is) (i ∷ but_notes is))
      go true n rest = rest
      go false n rest = ((leb-false _ _ n, h.0), rest)

  pub fields-have : (file : List ℕ) → Every P (raw_fields_from file 0).items → Every (λ (i : Item). Plain i × P i) (fields_of file).items
  unfolding fields_of fields_from
  fields-have file = but-notes (raw_fields_from file 0).items

-- Where there are no notes, all fields stay.
no-notes : (is : List Item) → Every Plain is → but_notes is ≡ is
unfolding but_notes
no-notes [] h = refl
no-notes (i ∷ is) h =
    ap (λ (b : Bool). cond b (but_notes is) (i ∷ but_notes is)) (lt-leb _ _ h.0) ∙ ap (◌∷◌ i) (no-notes is h.1)

-- A row of fields without notes has just the fields that went into it.
pub of-encoded : (is : List Item) → Every Plain is → fields_of (encoded is) ≡ record { items = is; framing = Whole }
of-encoded is h = row-is-read is ∙ ap (λ (l : List Item). record { items = l; framing = Whole }) (no-notes is h)

pub notes-passed-over : NotesPassedOver
notes-passed-over file w =
    let is = (fields_of file).items in
    let all = every-by (λ (i : Item). Unit) (raw_fields_from file 0).items (record { tag = 0; value = [] }) (λ k h. tt) in
    of-encoded is (every-weaken _ Plain (λ i p. p.0) is (fields-have (λ (i : Item). Unit) file all))
    ∙ ap (λ (f : Framing). record { items = is; framing = f }) (sym w)
