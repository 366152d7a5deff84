-- Files and their fields, both ways, and files without their notes.
use Rattle.std.specs.Prelude.{ℕ, ◌≡◌, List}
use Rattle.fields.specs.declared.Framing.TheVariants.{Whole}
use Rattle.fields.specs.Fields.{Bytes, Item, raw_fields_from, but_notes, fields_of, encoded, without_notes}

-- A whole file is the row of all its fields, notes among them.
abbrev pub FileIsRow : Type 0
FileIsRow = (file : List ℕ) → Bytes file → (fields_of file).framing ≡ Whole → encoded (raw_fields_from file 0).items ≡ file

-- A row of fields is whole, and all of them but the notes are read.
abbrev pub RowIsRead : Type 0
RowIsRead = (is : List Item) → fields_of (encoded is) ≡ record { items = but_notes is; framing = Whole }

-- A whole file and that file without its notes have the same fields.
abbrev pub NotesPassedOver : Type 0
NotesPassedOver = (file : List ℕ) → (fields_of file).framing ≡ Whole → fields_of (without_notes file) ≡ fields_of file
