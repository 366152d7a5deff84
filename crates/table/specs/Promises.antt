-- What an accepted table is: every node is in use, no two nodes of a level do the same, and no other file has the same functions.
-- Diagrams and their files, both ways.
use Rattle.std.specs.Prelude.{ℕ, ◌^◌, ◌-◌, ◌≤◌, ◌<◌, ◌≡◌, List}
use Rattle.fields.specs.Fields.{Bytes, without_notes}
use Rattle.diagram.specs.declared.Diagram.{Diagram}
use Rattle.diagram.specs.Questions.{Sized, Tidy}
use Rattle.diagram.specs.Diagram.{width, root, input_of, path, word_at}
use Rattle.table.specs.Encode.{Contents, bytes_of, table_bytes}
use Rattle.table.specs.Table.{diagram_in, fields_refusal, table_refusal}

-- A file of bytes is accepted if the table's questions all get a yes.
abbrev pub Accepted : List ℕ → Type 0
Accepted file = Bytes file × (table_refusal file ≡ 0)

-- Every node of every level is reached from some output under some input.
abbrev pub NodesReached : Type 0
NodesReached =
    (file : List ℕ) → Accepted file → let d = diagram_in file in
    (l u : ℕ) → l < d.contacts → u < width d l →
    (j : ℕ) × (j < d.outputs) × (a : ℕ) × (a < 2 ^ d.contacts) × (path d (input_of a) l 0 (root d j) ≡ u)

-- Two different nodes of a level lead to different constants under some input.
abbrev pub NodesApart : Type 0
NodesApart =
    (file : List ℕ) → Accepted file → let d = diagram_in file in
    (l u v : ℕ) → l ≤ d.contacts → u < width d l → v < width d l → (u ≡ v → ⊥) →
    (a : ℕ) × (a < 2 ^ d.contacts)
    × (path d (input_of a) (d.contacts - l) l u ≡ path d (input_of a) (d.contacts - l) l v → ⊥)

-- Two accepted files with the same counts of contacts and outputs that give the same word at every input are the same bytes but for
-- their notes.
abbrev pub SameWords : Type 0
SameWords =
    (file other : List ℕ) → Accepted file → Accepted other → let d = diagram_in file in let e = diagram_in other in
    d.contacts ≡ e.contacts → d.outputs ≡ e.outputs →
    ((a : ℕ) → a < 2 ^ d.contacts → word_at d (input_of a) d.outputs ≡ word_at e (input_of a) e.outputs) →
    without_notes file ≡ without_notes other

-- What was read is written as it was: an accepted file without its notes is the file of its diagram.
abbrev pub TableWritesBack : Type 0
TableWritesBack = (file : List ℕ) → Accepted file → table_bytes (diagram_in file) ≡ without_notes file

-- What is written reads back as it was: the file of a diagram that keeps the limits passes questions 1 to 4 and holds that diagram.
abbrev pub TableReadsBack : Type 0
TableReadsBack = (d : Diagram) → Sized d → Tidy d → (fields_refusal (table_bytes d) ≡ 0) × (diagram_in (table_bytes d) ≡ d)

-- It has no notes.
abbrev pub TableWithoutNotes : Type 0
TableWithoutNotes = (c : Contents) → without_notes (bytes_of c) ≡ bytes_of c

-- These are the diagrams that questions 1 to 4 let through.
abbrev pub ReadTidy : Type 0
ReadTidy = (file : List ℕ) → fields_refusal file ≡ 0 → Sized (diagram_in file) × Tidy (diagram_in file)
