-- A walk of a file: a cursor stepped from a place to the end, or to a field cut short, and the fields that the steps gave.
use Rattle.std.specs.Prelude.{ℕ, zero, suc, ◌≡◌, cond, List, [], length}
use Rattle.fields.specs.declared.Field.{Field}
use Rattle.fields.specs.declared.Cursor.{Cursor}
use Rattle.fields.specs.declared.Step.{Step}
use Rattle.fields.specs.declared.Step.TheVariants.{Next, End, Cut}
use Rattle.fields.specs.declared.Framing.TheVariants.{Whole, Broken}
use Rattle.fields.specs.Fields.{Item, Fields, raw_step_at, is_note, fields_from, item_of, before, fields_of}

-- What a step leads to, given what stands at each place: a note is passed over.
abbrev pub past_notes : (ℕ → Step) → Step → Step
past_notes from (Next f c) = cond (is_note f.tag) (from c.at) (Next f c)
past_notes from End = End
past_notes from Cut = Cut

-- What stands at a place once the notes there are passed over, in at most so many steps.
unfoldable pub step_within : ℕ → List ℕ → ℕ → Step
step_within zero file at = Cut
step_within (suc steps) file at = past_notes (step_within steps file) (raw_step_at file at)

unfoldable pub step_at : List ℕ → ℕ → Step
step_at file at = step_within (suc (length file)) file at

pub data Walk (file : List ℕ) : ℕ → Fields → Type 0 where
  ended : {at : ℕ} → step_at file at ≡ End → Walk file at (record { items = []; framing = Whole })
  broken : {at : ℕ} → step_at file at ≡ Cut → Walk file at (record { items = []; framing = Broken })
  stepped : {at : ℕ} {f : Field} {c : Cursor} {fs : Fields} → step_at file at ≡ Next f c → Walk file c.at fs →
      Walk file at (before (item_of file f) fs)

-- The fields from a place on.
abbrev pub items_from : List ℕ → ℕ → List Item
items_from file at = (fields_from file at).items

-- Stepping a cursor from the start yields the fields of the file.
abbrev pub WalkYieldsFields : Type 0
WalkYieldsFields = (file : List ℕ) → Walk file 0 (fields_of file)
