-- The starred cases hold, by computation.
use mathlib.Core.Path.{refl}
use Rattle.answers.specs.Starred.{AllHold, starred}
use Rattle.fields.specs.Bounded.{all, any, listed, least_from}
use Rattle.fields.specs.Fields.{raw_step_at, value_of, raw_fields_within, raw_fields_from, but_notes, fields_from, fields_of, encoded}
use Rattle.fields.specs.Refusals.{first_no}
use Rattle.files.specs.Header.{contacts_in}
use Rattle.diagram.specs.Diagram.{width, edge_at, root, input_of}
use Rattle.diagram.specs.Questions.{in_range, distinct, mention, mentions, brought, numbered}
use Rattle.table.specs.Table.{outputs_in, are_levels, padded, diagram_of, fields_refusal, diagram_refusal, table_refusal}
use Rattle.netlist.specs.Netlist.{any_of, is_read, gates_of, pairs_of, holds_of, file_of, file_with}
use Rattle.simulation.specs.Run.{drive, work_out, held, values_of, shown_of}
use Rattle.wiring.specs.Questions.{form_of, is_sound, netlist_of, netlist_refusal}
use Rattle.drive.specs.Questions.{are_ordered}
use Rattle.simulation.specs.Service.{step_refusal, step_of, run_of}
use Rattle.table.specs.Encode.{bytes_of}
use Rattle.functions.specs.Functions.{same, tree, place, firsts, level_of, is_narrow}
use Rattle.drawing.specs.Drawing.{is_above, is_drawing, next, lead}
use Rattle.drawing.specs.Drawing as drawing
use Rattle.truths.specs.Service.{drawing_refusal, from_drawing_of}
use Rattle.rulesheet.specs.Rules as rulesheet
use Rattle.coverage.specs.Service.{rules_refusal, from_rules_of}
use Rattle.rules.specs.Make.{◌>>=◌, sequence}
use Rattle.rules.specs.Blocks.{cut_within, cut, term, joined, product_entry, product, level_matrix, block}
use Rattle.rules.specs.Blocks as blocks
use Rattle.rules.specs.Board.{whole_block, board_of, depths_of, depth_of}
use Rattle.rules.specs.Lamp.{join, lamp_of, with_lamp}
use Rattle.rules.specs.Code.{code_rails}
use Rattle.files.specs.Room.{writing_of}
use Rattle.sheet.specs.Sheet.{decimal, in_five, row_text, numbered_rows, rows_from, sheet_of}
use Rattle.sheet.specs.Service.{sheeting_of}
use Rattle.synthesis.specs.Service.{checked_of, building_of, lamp_building_of}
use Rattle.faults.specs.Betrayal.{stuck_at, no_code, betrays, is_seen}
use Rattle.stuck.specs.Service.{probe_refusal, probing_of}
use Rattle.answers.specs.Answers.{probe_of}
use mathlib.Core.List.{flat_map}

pub all-starred : AllHold starred
unfolding all any raw_step_at value_of raw_fields_within raw_fields_from but_notes fields_from fields_of encoded contacts_in first_no width edge_at root input_of in_range distinct mention mentions brought numbered outputs_in are_levels padded diagram_of fields_refusal diagram_refusal table_refusal listed any_of is_read gates_of pairs_of holds_of file_of file_with drive work_out held values_of shown_of form_of is_sound are_ordered netlist_of netlist_refusal step_refusal step_of run_of ◌>>=◌ sequence cut_within cut term blocks.tree joined product_entry product level_matrix block whole_block board_of depths_of depth_of code_rails checked_of writing_of building_of lamp_building_of join lamp_of with_lamp stuck_at no_code betrays is_seen least_from probe_refusal probing_of probe_of decimal in_five row_text numbered_rows rows_from sheet_of sheeting_of flat_map bytes_of same tree place firsts level_of is_narrow is_above is_drawing next lead drawing.form_of drawing_refusal from_drawing_of rulesheet.form_of rules_refusal from_rules_of
all-starred =
    (refl, ((refl, refl, refl), ((refl, refl), ((refl, refl), (refl, (refl, ((refl, refl), (refl, ((refl, refl, refl), (refl, (refl, (refl, ((refl, refl, refl), (refl, (refl, (refl, (refl, ((refl, refl, refl), ((refl, refl, refl), ((refl, refl, refl), ((refl, refl, refl), ((refl, refl, refl), ((refl, refl, refl), ((refl, refl, refl), (refl, ((refl, refl, refl), ((refl, refl, refl), ((refl, refl, refl), ((refl, refl, refl), ((refl, refl), ((refl, refl), ((refl, refl, refl), (refl, ((refl, refl, refl), (refl, (refl, (refl, ((refl, refl), ((refl, refl, refl), ((refl, refl, refl), ((refl, refl, refl), ((refl, refl, refl), ((refl, refl, refl), ((refl, refl, refl), ((refl, refl, refl), ((refl, refl, refl), ((refl, refl, refl), ((refl, refl, refl), ((refl, refl, refl), ((refl, refl, refl), ((refl, refl, refl), ((refl, refl, refl), ((refl, refl, refl), ((refl, refl, refl), ((refl, refl), ((refl, refl), (refl, ((refl, refl), ((refl, refl), ((refl, refl), ((refl, refl), (refl, (refl, (refl, (refl, (refl, (refl, (refl, (refl, ((refl, refl), (refl, (refl, (refl, (refl, (refl, (refl, (refl, (refl, tt))))))))))))))))))))))))))))))))))))))))))))))))))))))))))))))))))))))))))))))
