-- What question 6's search in a table file hands back.
use Rattle.std.specs.Prelude.{ℕ, zero, suc, None, List, replicate}
use Rattle.diagram.specs.declared.Diagram.{Diagram}
use Rattle.twins.specs.declared.Comparison.{Comparison}
use Rattle.twins.specs.Twins.{comparison_of}
use Rattle.table.specs.Table.{diagram_in, fields_refusal}

-- A diagram without its outputs, which question 6 does not look at.
abbrev pub bare : Diagram → Diagram
bare d = record { contacts = d.contacts; outputs = 0; roots = replicate 8 0; widths = d.widths; edges = d.edges }

-- Nothing is compared in a file that questions 1 to 4 refuse.
abbrev pub comparison_or : ℕ → Diagram → Comparison
comparison_or zero d = comparison_of d
comparison_or (suc k) d = record { twins = None; compared = 0 }

unfoldable pub comparison_in : List ℕ → Comparison
comparison_in file = comparison_or (fields_refusal file) (diagram_in file)
