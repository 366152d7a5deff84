-- `show_pairs` meets its contract. The loop's invariant: the pairs of the outputs passed are written.
use native.Mathlib.Omega.{arith}
use Prim.Native.Nat.{◌/◌, ◌<◌}
use mathlib.Core.Path.{◌≡◌, refl, sym, ◌∙◌}
use mathlib.Core.List.{flat_map, map}
use lib.ListN.{length, length-set, get_or-map}
use Rattle.fields.specs.Bounded.{listed}
use Rattle.simulation.specs.Run.{shown_of}
use Rattle.simulation.specs.Service.{read_back}
use Rattle.netlist.specs.Netlist.{pair_at}
use Rattle.netlist.proofs.Chunks.{pair-chunk}
use Rattle.netlist.proofs.Sound.{PairIn}
use Rattle.wiring.proofs.Tests.{pairs-at}
use Rattle.run.proofs.Paired.{pair-more, pairs-done}
use Rattle.run.proofs.show_pairs.Goals.{After-from-pair}
use Rattle.run.proofs.show_pairs.Goals as goal

pub loop-j-init : goal.loop-j-init
unfolding shown_of flat_map listed
loop-j-init c = record { room = refl; written = refl }

module _ (c : After-from-pair) where
  here : c.loop-j.j < length c.args.outputs.now / 4
  here = omega (arith, c.as_chunks.ensures.front_len)

  pair : c.from-pair.result ≡ pair_at c.args.outputs.now c.loop-j.j
  pair = c.from-pair.ensures ∙ pair-chunk _ _ c.as_chunks.ensures.front here

  -- The output read has its lines in the netlist.
  within : PairIn (length c.args.lines.now) c.from-pair.result
  within = rw pair (pairs-at (length c.args.lines.now) c.args.outputs.now c.requires.outputs_value c.loop-j.j here)

pub bounds-lines-pair : goal.bounds-lines-pair
bounds-lines-pair c = omega (arith, within (goal.at.bounds-lines-pair c).After-from-pair)

pub bounds-pairs-at : goal.bounds-pairs-at
bounds-pairs-at c = omega (arith, here (goal.at.bounds-pairs-at c).After-from-pair)

pub bounds-lines-pair-in-loop-j : goal.bounds-lines-pair-in-loop-j
bounds-lines-pair-in-loop-j c = omega (arith, within (goal.at.bounds-lines-pair-in-loop-j c).After-from-pair)

pub bounds-pairs-at-in-loop-j : goal.bounds-pairs-at-in-loop-j
bounds-pairs-at-in-loop-j c = simp length-set (omega (arith, here (goal.at.bounds-pairs-at-in-loop-j c).After-from-pair))

pub loop-j-preserved : goal.loop-j-preserved
loop-j-preserved c =
    let off = c.read_back-in-loop-j.ensures in
    let on = c.read_back.ensures in
    let a = c.args in
    let inv = c.loop-j.invariant in
    let here = pair (goal.at.loop-j-preserved c).After-from-pair in
    record {
      room = simp length-set inv.room;
      written = pair-more a.outputs.now (map read_back a.lines.now) a.pairs.now a.before c.loop-j.j inv.written here refl
          (on ∙ sym (get_or-map read_back a.lines.now _ 0)) (off ∙ sym (get_or-map read_back a.lines.now _ 0));
    }

pub returns : goal.returns
returns c =
    let a = c.args in
    c.loop-j.invariant.written
    ∙ pairs-done a.outputs.now (map read_back a.lines.now) a.pairs.now a.before c.loop-j.j (omega (arith, c.as_chunks.ensures.front_len))
