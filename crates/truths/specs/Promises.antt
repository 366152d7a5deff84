-- What from-drawing promises: the one table of the drawing's functions.
use Rattle.std.specs.Prelude.{ℕ, zero, suc, ◌+◌, ◌<◌, ◌≡◌, true, false, cond, ltb, length}
use mathlib.Core.List.{List, [], ◌∷◌, flat_map}
use Rattle.fields.specs.Bounded.{listed}
use Rattle.fields.specs.Fields.{encoded, fields_of, without_notes}
use Rattle.diagram.specs.declared.Diagram.{Diagram}
use Rattle.diagram.specs.Diagram.{width, edge, root, Input, word_of, word_at}
use Rattle.table.specs.Promises.{Accepted}
use Rattle.table.specs.Table.{diagram_in}
use Rattle.functions.specs.Functions.{MoreThanEight}
use Rattle.drawing.specs.Drawing.{drawing_in, form_of, form_number, drawn_at}
use Rattle.truths.specs.Service.{table_for, drawing_refusal, from_drawing_of}

-- A file that question 16 lets through.
abbrev pub WellFormed : List ℕ → Type 0
WellFormed file = form_number (form_of (fields_of file)) ≡ 0

-- The table is accepted, has the drawing's contacts and outputs, and gives the drawing's word at every input.
abbrev pub TableOfDrawing : Type 0
TableOfDrawing =
    (file : List ℕ) → drawing_refusal file ≡ 0 → let d = drawing_in file in let t = diagram_in (table_for d) in
    Accepted (table_for d) × (t.contacts ≡ d.contacts) × (t.outputs ≡ length d.outputs)
    × ((x : Input) → word_at t x t.outputs ≡ word_of (λ j. drawn_at d j x) (length d.outputs))

-- Drawings of the same functions with the same n get one answer, and one table.
abbrev pub OneTable : Type 0
OneTable =
    (file other : List ℕ) → WellFormed file → WellFormed other → let d = drawing_in file in let e = drawing_in other in
    d.contacts ≡ e.contacts → length d.outputs ≡ length e.outputs →
    ((x : Input) → word_of (λ j. drawn_at d j x) (length d.outputs) ≡ word_of (λ j. drawn_at e j x) (length e.outputs)) →
    (buffer : List ℕ) → from_drawing_of file buffer ≡ from_drawing_of other buffer

-- 17 is given exactly if fixing the first contacts, for some count of them below n, leaves more than eight different functions over
-- all outputs.
abbrev pub WideDrawing : List ℕ → Type 0
WideDrawing file =
    let d = drawing_in file in (l : ℕ) × (l < d.contacts) × MoreThanEight (length d.outputs) (drawn_at d) l

abbrev pub SeventeenIfWide : Type 0
SeventeenIfWide =
    (file : List ℕ) → WellFormed file →
    (drawing_refusal file ≡ 17 → WideDrawing file) × (WideDrawing file → drawing_refusal file ≡ 17)

-- The drawing with one node for each node of a diagram, level by level; the numbers of a level begin with this one.
unfoldable pub first_number : Diagram → ℕ → ℕ
first_number d zero = 2
first_number d (suc l) = first_number d l + width d l

-- The number of node u of level l; those of level n are the constants.
abbrev pub number_of : Diagram → ℕ → ℕ → ℕ
number_of d l u = cond (ltb l d.contacts) (first_number d l + u) u

abbrev pub node_bytes : Diagram → ℕ → ℕ → List ℕ
node_bytes d l u = l ∷ number_of d (suc l) (edge d l u false) ∷ number_of d (suc l) (edge d l u true) ∷ []

abbrev pub level_bytes : Diagram → ℕ → List ℕ
level_bytes d l = flat_map (node_bytes d l) (listed (λ u. u) (width d l) 0)

unfoldable pub drawing_for : Diagram → List ℕ
drawing_for d =
    encoded
    (record { tag = 1; value = d.contacts ∷ [] }
    ∷ record { tag = 2; value = listed (λ j. number_of d 0 (root d j)) d.outputs 0 }
    ∷ record { tag = 7; value = flat_map (level_bytes d) (listed (λ l. l) d.contacts 0) }
    ∷ [])

-- It gives an accepted table back, without its notes.
abbrev pub TableGivenBack : Type 0
TableGivenBack =
    (file : List ℕ) → Accepted file → let drawing = drawing_for (diagram_in file) in
    (drawing_refusal drawing ≡ 0) × (table_for (drawing_in drawing) ≡ without_notes file)
