-- Every answer is made of a file's fields alone, so files with the same fields get the same answers.
use Prim.Native.Nat.{ℕ}
use mathlib.Core.Path.{◌≡◌, sym, ap}
use mathlib.Core.List.{List}
use Rattle.fields.specs.Fields.{Fields, fields_of, without_notes}
use Rattle.fields.proofs.Notes.{notes-passed-over}
use Rattle.table.specs.Table.{diagram_of, diagram_in, fields_refusal, table_refusal, read_refusal, reading_of}
use Rattle.wiring.specs.Questions.{netlist_of, netlist_in, netlist_refusal}
use Rattle.simulation.specs.Service.{step_refusal, step_of, run_of}
use Rattle.sheet.specs.Service.{sheeting_of}
use Rattle.truths.specs.Service.{drawing_refusal, from_drawing_of}
use Rattle.coverage.specs.Service.{rules_refusal, from_rules_of}
use Rattle.synthesis.specs.Service.{checked_of, building_of, lamp_building_of}
use Rattle.stuck.specs.Service.{probe_refusal, probing_of}
use Rattle.answers.specs.Answers.{probe_of}
use Rattle.answers.specs.Notes.{IsWhole, SameAnswers}

module _ (a b : List ℕ) (e : fields_of a ≡ fields_of b) where
  diagrams : diagram_in a ≡ diagram_in b
  diagrams = ap (λ (fs : Fields). diagram_of fs.items) e

  tables : table_refusal a ≡ table_refusal b
  unfolding table_refusal fields_refusal
  tables = cc (e, diagrams)

  netlists : netlist_in a ≡ netlist_in b
  netlists = ap (λ (fs : Fields). netlist_of fs.items) e

  netlist-refusals : netlist_refusal a ≡ netlist_refusal b
  unfolding netlist_refusal
  netlist-refusals = cc e

  checked : checked_of a ≡ checked_of b
  unfolding checked_of
  checked = cc (tables, diagrams)

  built : (buffer : List ℕ) → building_of a buffer ≡ building_of b buffer
  unfolding building_of
  built buffer = cc (tables, diagrams)

  lit : (buffer : List ℕ) → lamp_building_of a buffer ≡ lamp_building_of b buffer
  unfolding lamp_building_of
  lit buffer = cc (tables, diagrams)

  read : (x : ℕ) → reading_of a x ≡ reading_of b x
  unfolding reading_of read_refusal
  read x = cc (tables, diagrams)

  probed : (hold buffer : List ℕ) → probe_of a hold buffer ≡ probe_of b hold buffer
  unfolding probe_of probing_of probe_refusal
  probed hold buffer = cc (tables, diagrams)

  stepped : (rails holds : List ℕ) (place count : ℕ) (lines pairs : List ℕ) →
      step_of a rails holds place count lines pairs ≡ step_of b rails holds place count lines pairs
  unfolding step_of step_refusal
  stepped rails holds place count lines pairs = cc (netlist-refusals, netlists)

  ran : (rails holds lines pairs : List ℕ) → run_of a rails holds lines pairs ≡ run_of b rails holds lines pairs
  unfolding run_of step_of step_refusal
  ran rails holds lines pairs = cc (netlist-refusals, netlists)

  printed : (buffer : List ℕ) → sheeting_of a buffer ≡ sheeting_of b buffer
  unfolding sheeting_of
  printed buffer = cc (netlist-refusals, netlists)

  drawn : (buffer : List ℕ) → from_drawing_of a buffer ≡ from_drawing_of b buffer
  unfolding from_drawing_of drawing_refusal
  drawn buffer = cc e

  ruled : (buffer : List ℕ) → from_rules_of a buffer ≡ from_rules_of b buffer
  unfolding from_rules_of rules_refusal
  ruled buffer = cc e

pub same-answers : SameAnswers
same-answers =
    record {
      check = λ file w. checked file (without_notes file) (same file w);
      build = λ file w. built file (without_notes file) (same file w);
      build_with_lamp = λ file w. lit file (without_notes file) (same file w);
      read_off = λ file w. read file (without_notes file) (same file w);
      probe = λ file w. probed file (without_notes file) (same file w);
      run = λ file w. ran file (without_notes file) (same file w);
      step = λ file w. stepped file (without_notes file) (same file w);
      sheet = λ file w. printed file (without_notes file) (same file w);
      from_drawing = λ file w. drawn file (without_notes file) (same file w);
      from_rules = λ file w. ruled file (without_notes file) (same file w);
    }
  where
    same : (file : List ℕ) → IsWhole file → fields_of file ≡ fields_of (without_notes file)
    same file w = sym (notes-passed-over file w)
