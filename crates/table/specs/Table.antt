-- A table file: questions 3 and 4 about its fields, the diagram that it holds, and the first question that it fails.
use Rattle.std.specs.Prelude.{ℕ, zero, suc, ◌/◌, ◌^◌, Bool, true, false, ◌&&◌, cond, Result, Ok, Err, Option, Some, None, ltb, length, drop}
use mathlib.Core.List.{List, [], ◌∷◌, map, flat_map}
use Rattle.fields.specs.Fields.{Item, fields_of, value_in}
use Rattle.fields.specs.Refusals.{framing_number, first_no}
use Rattle.files.specs.declared.refusal.Refusal.{Refusal}
use Rattle.files.specs.Refusals.{number_of}
use Rattle.files.specs.Header.{contacts_in, contacts_number, contacts_of, has_parts}
use Rattle.diagram.specs.declared.Diagram.{Diagram}
use Rattle.table.specs.declared.fit.Levels.{Levels}
use Rattle.table.specs.declared.fit.Levels.TheVariants.{Given, Lacking}
use Rattle.diagram.specs.declared.sound.Range.{Range}
use Rattle.diagram.specs.declared.sound.Range.TheVariants.{Within, Outside}
use Rattle.diagram.specs.declared.sound.Numbering.{Numbering}
use Rattle.diagram.specs.declared.sound.Numbering.TheVariants.{InTurn, OutOfTurn}
use Rattle.twins.specs.declared.Pair.{Pair}
use Rattle.table.specs.declared.reading.Reading.{Reading}
use Rattle.diagram.specs.Diagram.{input_of, word_at}
use Rattle.diagram.specs.Questions.{range_of, numbering_of}
use Rattle.twins.specs.Twins.{twins_of}

-- The number of each answer: 0 for yes, and the question's for no.
abbrev pub outputs_number : Option ℕ → ℕ
outputs_number (Some m) = 0
outputs_number None = 3

abbrev pub levels_number : Levels → ℕ
levels_number Given = 0
levels_number Lacking = 4

abbrev pub range_number : Range → ℕ
range_number Within = 0
range_number Outside = 5

abbrev pub twins_number : Option Pair → ℕ
twins_number None = 0
twins_number (Some p) = 6

abbrev pub numbering_number : Numbering → ℕ
numbering_number InTurn = 0
numbering_number OutOfTurn = 7

-- 3. Is the second tag 2, length 1 to 8? (Asked of the fields from the second on.)
unfoldable pub outputs_in : List Item → Option ℕ
outputs_in [] = None
outputs_in (i ∷ is) = cond (has_parts 2 1 1 8 i) (Some (length i.value)) None

unfoldable pub are_levels : ℕ → List Item → Bool
are_levels zero [] = true
are_levels zero (i ∷ is) = false
are_levels (suc n) [] = false
are_levels (suc n) (i ∷ is) = has_parts 3 2 1 8 i && are_levels n is

-- 4. Do exactly n fields of tag 3 follow and no others, each of even length 2 to 16? (Asked of the fields from the third on.)
abbrev pub levels_in : ℕ → List Item → Levels
levels_in n is = cond (are_levels n is) Given Lacking

-- The list l at length n: cut there, or filled up with 0.
unfoldable pub padded : ℕ → List ℕ → List ℕ
padded zero l = []
padded (suc n) [] = 0 ∷ padded n []
padded (suc n) (x ∷ xs) = x ∷ padded n xs

-- The values of the fields from the third on.
abbrev pub levels_of : List Item → List (List ℕ)
levels_of is = map (λ (i : Item). i.value) (drop 2 is)

-- What the fields hold besides the count of contacts: the outputs' nodes, and each level's width and edges, two bytes for each node.
abbrev pub roots_of : List Item → List ℕ
roots_of is = padded 8 (value_in is 1)

abbrev pub widths_of : List Item → List ℕ
widths_of is = padded 12 (map (λ (v : List ℕ). length v / 2) (levels_of is))

abbrev pub edges_of : List Item → List ℕ
edges_of is = padded 192 (flat_map (padded 16) (levels_of is))

unfoldable pub diagram_of : List Item → Diagram
diagram_of is =
    record { contacts = contacts_of is; outputs = length (value_in is 1); roots = roots_of is; widths = widths_of is; edges = edges_of is }

-- The diagram in a file.
abbrev pub diagram_in : List ℕ → Diagram
diagram_in file = diagram_of (fields_of file).items

-- The questions about the fields, and about the diagram that they hold, in their sequence.
unfoldable pub fields_refusal : List ℕ → ℕ
fields_refusal file =
    let is = (fields_of file).items in
    first_no
    (framing_number (fields_of file).framing
    ∷ contacts_number (contacts_in is)
    ∷ outputs_number (outputs_in (drop 1 is))
    ∷ levels_number (levels_in (contacts_of is) (drop 2 is))
    ∷ [])

unfoldable pub diagram_refusal : Diagram → ℕ
diagram_refusal d =
    first_no
    (range_number (range_of d)
    ∷ twins_number (twins_of d)
    ∷ numbering_number (numbering_of d)
    ∷ [])

-- The first of questions 1 to 7 that the file fails, or 0.
unfoldable pub table_refusal : List ℕ → ℕ
table_refusal file = first_no (fields_refusal file ∷ diagram_refusal (diagram_in file) ∷ [])

-- The table's questions, then 10. Is a below 2^n?
unfoldable pub read_refusal : List ℕ → ℕ → ℕ
read_refusal file a = first_no (table_refusal file ∷ cond (ltb a (2 ^ (diagram_in file).contacts)) 0 10 ∷ [])

-- A word or a refusal, as C gets it: the refusal's number with the word zero.
abbrev pub reading : Result ℕ Refusal → Reading
reading (Ok w) = record { refusal = 0; word = w }
reading (Err r) = record { refusal = number_of r; word = 0 }

-- Read-off returns the word of the outputs at input a, or the refusal with the word zero.
abbrev pub reading_or : ℕ → Diagram → ℕ → Reading
reading_or zero d a = record { refusal = 0; word = word_at d (input_of a) d.outputs }
reading_or (suc k) d a = record { refusal = suc k; word = 0 }

unfoldable pub reading_of : List ℕ → ℕ → Reading
reading_of file a = reading_or (read_refusal file a) (diagram_in file) a
