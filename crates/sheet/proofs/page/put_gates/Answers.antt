-- `page::put_gates` meets its contract.
use native.Mathlib.Nat.{zero-add}
use native.Mathlib.Omega.{arith}
use Prim.Native.Nat.{◌/◌, ◌<◌}
use mathlib.Core.Path.{◌≡◌, refl, sym, ap, ◌∙◌}
use lib.ListN.{length}
use Rattle.netlist.specs.Netlist.{gate_at, gates_of}
use Rattle.netlist.proofs.Chunks.{gate-chunk}
use Rattle.sheet.specs.Sheet.{gate_row}
use Rattle.sheet.proofs.Pages.{filled, none_filled, row_more, gate-row-is}
use Rattle.sheet.proofs.page.put_gates.Goals.{After-from-gate}
use Rattle.sheet.proofs.page.put_gates.Goals as goal

pub loop-g-init : goal.loop-g-init
loop-g-init c = record { room = refl; written = none_filled gate_row _ 0 _ _ }

module _ (c : After-from-gate) where
  within : c.loop-g.g < length c.args.gates.now / 5
  within = omega (arith, c.as_chunks.ensures.front_len)

  here : c.from-gate.result ≡ gate_at c.args.gates.now c.loop-g.g
  here = c.from-gate.ensures ∙ gate-chunk _ _ c.as_chunks.ensures.front within

pub put_next-requires : goal.put_next-requires
put_next-requires c =
    let l = within (goal.at.put_next-requires c).After-from-gate in
    (omega (arith, c.requires), omega (arith, c.requires, c.loop-g.invariant.room))

pub loop-g-preserved : goal.loop-g-preserved
loop-g-preserved c =
    let a = c.args in
    let inv = c.loop-g.invariant in
    record {
      room = c.put_next.auto.text ∙ inv.room;
      written = row_more gate_row a.text.now 0 a.line (gate_at a.gates.now) c.loop-g.g inv.written (sym (zero-add _))
          (gate-row-is _ c.from.ensures (here (goal.at.loop-g-preserved c).After-from-gate))
          c.put_next.ensures;
    }

pub returns : goal.returns
unfolding gates_of
returns c =
    let a = c.args in
    c.loop-g.invariant.written
    ∙ ap (filled gate_row a.text.now 0 a.line (gate_at a.gates.now)) (omega (arith, c.as_chunks.ensures.front_len))
