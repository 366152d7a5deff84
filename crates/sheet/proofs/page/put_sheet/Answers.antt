-- `page::put_sheet` meets its contract: the heading, the gates' rows, the outputs' rows and the lamp's row.
use native.Mathlib.Omega.{arith}
use Prim.Native.Nat.{ℕ, ◌+◌, ◌/◌}
use mathlib.Core.Path.{◌≡◌}
use mathlib.Core.List.{List}
use lib.ListN.{length}
use lib.Seq.{sets}
use Rattle.netlist.specs.Netlist.{pairs_of}
use Rattle.netlist.proofs.Lists.{length-gates, length_pairs}
use Rattle.wiring.specs.Inner.Read.{netlist_by}
use Rattle.sheet.specs.Sheet.{output_row, numbered_rows, rows_from}
use Rattle.sheet.specs.Inner.Places.{rows_by}
use Rattle.sheet.proofs.Pages.{sheet-written}
use Rattle.sheet.proofs.page.put_sheet.Goals as goal

pub returns : goal.returns
returns c =
    let a = c.args in
    let p = a.parts.now in
    let some = length-gates p.gates.now in
    let few = length_pairs p.outputs.now in
    let rows : rows_by p ≡ length p.gates.now / 5 + length p.outputs.now / 4 + length p.lamp.now / 4 = omega arith in
    let second : ◌≡◌ {A = List ℕ} _ (sets _ _ (rows_from _ (numbered_rows output_row 0 (pairs_of p.outputs.now)))) = c.put_pairs.ensures in
    sheet-written (netlist_by p) a.text.now some few
    (rw (some, few, length_pairs p.lamp.now) (rw rows at c.requires))
    c.put_heading.ensures (rw c.gate_line.ensures at c.put_gates.ensures) second c.put_pairs-2.ensures
