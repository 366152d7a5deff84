-- The demands hold.
use Prim.Native.Nat.{ℕ, zero, suc}
use native.Mathlib.Omega.{arith}
use mathlib.Core.Path.{◌≡◌, refl, sym, ◌∙◌}
use mathlib.Core.List.{List}
use Rattle.diagram.specs.declared.Diagram.{Diagram}
use Rattle.fields.proofs.Encoding.{file-is-row, row-is-read}
use Rattle.twins.proofs.Promises.{first-twins, no-twins, pairs-counted, all-pairs}
use lib.ListN.{length}
use Rattle.files.proofs.Writing.{refused-writing}
use Rattle.table.specs.Table.{diagram_in, table_refusal, read_refusal, reading_or, reading_of}
use Rattle.netlist.specs.declared.Hold.{Hold}
use Rattle.netlist.specs.Netlist.{Netlist, hold_at, file_of, line_count}
use Rattle.wiring.specs.Questions.{netlist_in, netlist_refusal}
use Rattle.simulation.specs.Service.{step_refusal, stepped_or, step_of, run_of}
use Rattle.steps.proofs.Promises.{steps-make-run, others-no-effect, run-is-one-step}
use Rattle.sheet.specs.Sheet.{sheet_of}
use Rattle.sheet.specs.Service.{sheeting_of}
use Rattle.table.proofs.Written.{table-without-notes}
use Rattle.wiring.proofs.Promises.{netlist-without-notes}
use Rattle.sheet.proofs.Promises.{sheet-determines, sheet-length}
use Rattle.drawing.specs.Drawing.{drawing_in}
use Rattle.truths.specs.Service.{table_for, drawing_refusal, from_drawing_of}
use Rattle.truths.proofs.Promises.{table-of-drawing, one_table, seventeen-if-wide}
use Rattle.truths.proofs.GivenBack.{table-given-back}
use Rattle.rulesheet.specs.Rules.{rule_sheet_in}
use Rattle.coverage.specs.Service.{rules_refusal, from_rules_of}
use Rattle.coverage.specs.Service as rules
use Rattle.coverage.proofs.Promises.{table-of-rules, nineteen-if-shared, twenty-if-unruled, seventeen-if-wide-rules, one-table-of-rules}
use Rattle.coverage.proofs.Order.{order-of-rules}
use Rattle.rules.specs.Board.{table_board}
use Rattle.rules.specs.Lamp.{lamp_board}
use Rattle.synthesis.specs.Service.{checked_or, checked_of, building_of, lamp_building_of}
use Rattle.rules.proofs.Promises.{within-formulas, built-files-pass, right-code, different-netlists}
use Rattle.stuck.specs.Service.{probe_refusal, probing_or, probing_of}
use Rattle.faults.specs.Betrayal.{is_seen}
use Rattle.faults.proofs.Promises.{no-wrong-lines, run-writes, no-unseen-line}
use Rattle.faults.proofs.Spare.{gates-read, spare-contacts, unread-unseen}
use Rattle.pins.proofs.LowPins.{low-pins-seen}
use Rattle.pins.proofs.HighPins.{hidden-pins}
use Rattle.lamp.proofs.Promises.{plain-first, lamp-formulas, lamp-files-pass, different-lamp-netlists}
use Rattle.lamp.proofs.Promises.{lamp-right-code, lamp-is-code, lamp-no-wrong-code, lamp-shows-stuck-line}
use Rattle.answers.proofs.OneHold.{refusal-by}
use Rattle.answers.proofs.Promises.{smallest, probe-writes, hidden-if-unseen, lines-seen, fifteen-for-lines}
use Rattle.answers.proofs.Notes.{same-answers}
use Rattle.answers.specs.Answers.{way_number, probe_of}
use Rattle.answers.specs.Demands.{Refusals, Demands}

check-refused : (r : ℕ) (net : Netlist) (k : ℕ) → (checked_or r net).refusal ≡ suc k →
    let c = checked_or r net in (c.contacts ≡ 0) × (c.outputs ≡ 0) × (c.gates ≡ 0) × (c.depth ≡ 0)
check-refused zero net k e = absurd (omega arith)
check-refused (suc r) net k e = (refl, refl, refl, refl)

read-refused : (r : ℕ) (d : Diagram) (a k : ℕ) → (reading_or r d a).refusal ≡ suc k → (reading_or r d a).word ≡ 0
read-refused zero d a k e = absurd (omega arith)
read-refused (suc r) d a k e = refl

step-refused : (r : ℕ) (net : Netlist) (rails holds : List ℕ) (place count : ℕ) (lines pairs : List ℕ) (k : ℕ) →
    let s = stepped_or r net rails holds place count lines pairs in
    s.refusal ≡ suc k → (s.place ≡ 0) × (s.lines ≡ lines) × (s.pairs ≡ pairs)
step-refused zero net rails holds place count lines pairs k e = absurd (omega arith)
step-refused (suc r) net rails holds place count lines pairs k e = (refl, refl, refl)

probe-refused : (r : ℕ) (net : Netlist) (hold : Hold) (buffer : List ℕ) (k : ℕ) → (probing_or r net hold buffer).answer.refusal ≡ suc k →
    let p = probing_or r net hold buffer in
    (p.answer.input ≡ 0) × (p.answer.output ≡ 0) × (way_number p.answer.way ≡ 0) × (p.buffer ≡ buffer)
probe-refused zero net hold buffer k e = absurd (let z = sym (refusal-by net hold (is_seen net hold)) ∙ e in omega arith)
probe-refused (suc r) net hold buffer k e = (refl, refl, refl, refl)

refusals : Refusals
unfolding checked_of building_of lamp_building_of reading_of run_of step_of probing_of probe_of sheeting_of from_drawing_of from_rules_of
refusals =
    record {
      check = λ table. check-refused (table_refusal table) (table_board table);
      build = λ table buffer. refused-writing (table_refusal table) (file_of (table_board table)) buffer;
      build_with_lamp = λ table buffer. refused-writing (table_refusal table) (file_of (lamp_board table)) buffer;
      read_off = λ table a. read-refused (read_refusal table a) (diagram_in table) a;
      run = λ netlist rails holds lines pairs k e.
          let (_, ls, ps) =
          step-refused (step_refusal netlist rails holds 2 (length lines) (length pairs)) (netlist_in netlist) rails holds 2
          (line_count (netlist_in netlist)) lines pairs k e in
          (ls, ps);
      step = λ netlist rails holds place count lines pairs.
          step-refused (step_refusal netlist rails holds place (length lines) (length pairs)) (netlist_in netlist) rails holds place count lines pairs;
      probe = λ table hold buffer.
          probe-refused (probe_refusal table hold (length buffer)) (table_board table) (hold_at hold 0) buffer;
      sheet = λ netlist buffer. refused-writing (netlist_refusal netlist) (sheet_of (netlist_in netlist)) buffer;
      from_drawing = λ drawing buffer. refused-writing (drawing_refusal drawing) (table_for (drawing_in drawing)) buffer;
      from_rules = λ sheet buffer. refused-writing (rules_refusal sheet) (rules.table_for (rule_sheet_in sheet)) buffer;
    }

pub demands : Demands
demands =
    record {
      first = refusals;
      second =
          record {
            within = within-formulas;
            pass = built-files-pass;
            right = right-code;
            different = different-netlists;
          };
      third =
          record {
            no_wrong_code = no-wrong-lines;
            run_writes = run-writes;
            no_unseen_line = no-unseen-line;
            smallest = smallest;
            probe_writes = probe-writes;
          };
      pins =
          record {
            hidden = hidden-if-unseen;
            lines_seen = lines-seen;
            fifteen = fifteen-for-lines;
            low_pins_seen = low-pins-seen;
            hidden_pins = hidden-pins;
          };
      steps = record { make_run = steps-make-run; others = others-no-effect; one_step = run-is-one-step };
      spare = record { gates_read = gates-read; contacts = spare-contacts; unseen = unread-unseen };
      sheets = record { determines = sheet-determines; length = sheet-length };
      drawings =
          record {
            table = table-of-drawing;
            one = one_table;
            seventeen = seventeen-if-wide;
            back = table-given-back;
          };
      rules =
          record {
            table = table-of-rules;
            nineteen = nineteen-if-shared;
            twenty = twenty-if-unruled;
            seventeen = seventeen-if-wide-rules;
            one = one-table-of-rules;
            order = order-of-rules;
          };
      twins = record { first = first-twins; none = no-twins; counted = pairs-counted; all = all-pairs };
      lamps =
          record {
            plain_first = plain-first;
            within = lamp-formulas;
            pass = lamp-files-pass;
            different = different-lamp-netlists;
            right = lamp-right-code;
            code = lamp-is-code;
            no_wrong_code = lamp-no-wrong-code;
            stuck_line = lamp-shows-stuck-line;
          };
      notes =
          record {
            row = file-is-row;
            read = row-is-read;
            answers = same-answers;
            tables = table-without-notes;
            netlists = netlist-without-notes;
          };
    }
