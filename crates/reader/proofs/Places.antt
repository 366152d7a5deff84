-- The value that a step found, and of a step that found none.
use Prim.Native.Nat.{ℕ}
use mathlib.Core.Path.{◌≡◌, refl, sym, ap, ◌∙◌}
use mathlib.Core.List.{List, []}
use Rattle.fields.specs.declared.Field.{Field}
use Rattle.fields.specs.declared.Cursor.{Cursor}
use Rattle.fields.specs.declared.Step.{Step}
use Rattle.fields.specs.declared.Step.TheVariants.{Next, End, Cut}
use Rattle.fields.specs.Fields.{Fields, fields_after, fields_from, value_in}
use Rattle.fields.specs.Inner.Walk.{step_at}
use Rattle.fields.proofs.Steps.{walk}
use Rattle.reader.specs.Inner.Found.{found_in}

-- The value that the step at a place found is that of the first field from there on.
first_of : (file : List ℕ) (s : Step) → found_in file s ≡ value_in (fields_after file (fields_from file) s).items 0
first_of file (Next f c) = refl
first_of file End = refl
first_of file Cut = refl

pub found-at : (file : List ℕ) (at : ℕ) → found_in file (step_at file at) ≡ value_in (fields_from file at).items 0
found-at file at = first_of file (step_at file at) ∙ sym (ap (λ (fs : Fields). value_in fs.items 0) (walk file at refl))

-- A step that found no field has no value.
pub none_found : (file : List ℕ) (s : Step) → ((f : Field) (c : Cursor) → s ≡ Next f c → ⊥) → [] ≡ found_in file s
none_found file (Next f c) o = absurd (o f c refl)
none_found file End o = refl
none_found file Cut o = refl
