-- Notes change no answer.
use Rattle.std.specs.Prelude.{ℕ, ◌≡◌, List}
use Rattle.fields.specs.declared.Framing.TheVariants.{Whole}
use Rattle.fields.specs.Fields.{fields_of, without_notes}
use Rattle.table.specs.Table.{reading_of}
use Rattle.simulation.specs.Service.{run_of, step_of}
use Rattle.sheet.specs.Service.{sheeting_of}
use Rattle.truths.specs.Service.{from_drawing_of}
use Rattle.coverage.specs.Service.{from_rules_of}
use Rattle.synthesis.specs.Service.{checked_of, building_of, lamp_building_of}
use Rattle.answers.specs.Answers.{probe_of}

-- A file that splits into whole fields, notes among them.
abbrev pub IsWhole : List ℕ → Type 0
IsWhole file = (fields_of file).framing ≡ Whole

-- A whole file and that file without its notes get the same answer from every service, refusals included, and leave the same bytes.
pub record SameAnswers : Type 0 where
  pub check : (table : List ℕ) → IsWhole table → checked_of table ≡ checked_of (without_notes table)
  pub build : (table : List ℕ) → IsWhole table → (buffer : List ℕ) → building_of table buffer ≡ building_of (without_notes table) buffer
  pub build_with_lamp : (table : List ℕ) → IsWhole table → (buffer : List ℕ) →
      lamp_building_of table buffer ≡ lamp_building_of (without_notes table) buffer
  pub read_off : (table : List ℕ) → IsWhole table → (a : ℕ) → reading_of table a ≡ reading_of (without_notes table) a
  pub probe : (table : List ℕ) → IsWhole table → (hold buffer : List ℕ) →
      probe_of table hold buffer ≡ probe_of (without_notes table) hold buffer
  pub run : (netlist : List ℕ) → IsWhole netlist → (rails holds lines pairs : List ℕ) →
      run_of netlist rails holds lines pairs ≡ run_of (without_notes netlist) rails holds lines pairs
  pub step : (netlist : List ℕ) → IsWhole netlist → (rails holds : List ℕ) (place count : ℕ) (lines pairs : List ℕ) →
      step_of netlist rails holds place count lines pairs ≡ step_of (without_notes netlist) rails holds place count lines pairs
  pub sheet : (netlist : List ℕ) → IsWhole netlist → (buffer : List ℕ) →
      sheeting_of netlist buffer ≡ sheeting_of (without_notes netlist) buffer
  pub from_drawing : (drawing : List ℕ) → IsWhole drawing → (buffer : List ℕ) →
      from_drawing_of drawing buffer ≡ from_drawing_of (without_notes drawing) buffer
  pub from_rules : (rules : List ℕ) → IsWhole rules → (buffer : List ℕ) → from_rules_of rules buffer ≡ from_rules_of (without_notes rules) buffer
