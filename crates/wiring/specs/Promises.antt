-- Netlists and their files, both ways.
use Rattle.std.specs.Prelude.{ℕ, ◌≡◌, List}
use Rattle.fields.specs.Fields.{Bytes, without_notes}
use Rattle.netlist.specs.Netlist.{Netlist, file_of}
use Rattle.wiring.specs.Questions.{netlist_in, netlist_refusal}

-- What is written reads back as it was: the file of a netlist holds that netlist.
abbrev pub NetlistReadsBack : Type 0
NetlistReadsBack = (net : Netlist) → netlist_in (file_of net) ≡ net

-- It has no notes.
abbrev pub NetlistWithoutNotes : Type 0
NetlistWithoutNotes = (net : Netlist) → without_notes (file_of net) ≡ file_of net

-- What was read is written as it was: a file of bytes that questions 11 and 12 accept is, without its notes, the file of the netlist
-- that it holds.
abbrev pub NetlistWritesBack : Type 0
NetlistWritesBack = (file : List ℕ) → Bytes file → netlist_refusal file ≡ 0 → file_of (netlist_in file) ≡ without_notes file
