-- The service from-drawing: what it returns and writes.
use Rattle.std.specs.Prelude.{ℕ, List, [], ◌∷◌, length}
use Rattle.fields.specs.Fields.{fields_of}
use Rattle.fields.specs.Refusals.{first_no}
use Rattle.files.specs.Room.{Writing, writing_of}
use Rattle.table.specs.Encode.{bytes_of}
use Rattle.functions.specs.Functions.{Function, functions_of, canonical}
use Rattle.canonical.specs.Service.{laid_of, laid_number}
use Rattle.drawing.specs.Drawing.{Drawing, drawing_in, form_of, form_number, drawn_at}

-- The outputs' functions, and the file of their table.
abbrev pub functions_in : Drawing → ℕ → Function
functions_in d = functions_of d.contacts (drawn_at d)

abbrev pub table_for : Drawing → List ℕ
table_for d = bytes_of (canonical d.contacts (length d.outputs) (functions_in d))

-- Question 16, then 17.
unfoldable pub drawing_refusal : List ℕ → ℕ
drawing_refusal file =
    let d = drawing_in file in
    first_no
    (form_number (form_of (fields_of file))
    ∷ laid_number (laid_of d.contacts (length d.outputs) (functions_in d))
    ∷ [])

-- It writes the table of the drawing's functions.
unfoldable pub from_drawing_of : List ℕ → List ℕ → Writing
from_drawing_of file buffer = writing_of (drawing_refusal file) (table_for (drawing_in file)) buffer
