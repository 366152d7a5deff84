-- `show` meets its contract: the outputs' pairs, and the lamp's behind them.
use native.Mathlib.Omega.{arith}
use Prim.Native.Nat.{ℕ, ◌*◌, ◌/◌}
use mathlib.Core.Path.{◌≡◌, ap, ◌∙◌}
use mathlib.Core.List.{List, map, ◌++◌}
use lib.ListN.{length, length-append}
use Rattle.files.proofs.Buffers.{sets_over}
use Rattle.files.proofs.WrittenLemmas.{onward}
use Rattle.netlist.specs.Netlist.{pairs_of}
use Rattle.netlist.proofs.Lists.{length_pairs}
use Rattle.simulation.specs.Run.{shown_of}
use Rattle.simulation.specs.Service.{read_back}
use Rattle.simulation.proofs.Shown.{length-shown}
use Rattle.run.proofs.show.Goals as goal

pub returns : goal.returns
returns c =
    let a = c.args in
    let vs = map read_back a.lines.now in
    let us = shown_of (pairs_of a.outputs.now) vs in
    let ws = shown_of (pairs_of a.lamp.now) vs in
    let k : (v : List ℕ) → length (shown_of (pairs_of v) vs) ≡ 2 * (length v / 4) = λ v.
    length-shown vs (pairs_of v) ∙ ap (◌*◌ 2) (length_pairs v) in
    onward a.pairs.now 0 us ws c.show_pairs.ensures c.show_pairs-2.ensures
    (omega (arith, k a.outputs.now))
    ∙ sets_over (us ++ ws) a.pairs.now (omega (arith, length-append us ws, k a.outputs.now, k a.lamp.now, c.requires.lamp_in_bounds))
