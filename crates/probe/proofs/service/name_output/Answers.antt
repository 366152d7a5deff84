-- `service::name_output` meets its contract: the lowest output, and its true line's value.
use Prim.Native.Nat.{◌/◌, ◌<◌}
use native.Mathlib.Omega.{arith}
use lib.ListN.{length}
use Rattle.netlist.specs.Netlist.{pairs_of}
use Rattle.netlist.proofs.Lists.{length_pairs}
use Rattle.faults.specs.Betrayal.{no_code}
use Rattle.fields.proofs.Least.{least_first}
use Rattle.stuck.proofs.Probes.{found-by}
use Rattle.probe.proofs.service.name_output.Goals.{After-lowest-output}
use Rattle.probe.proofs.service.name_output.Goals as goal

-- The output is one of the netlist's.
output : (c : After-lowest-output) → c.lowest-output.result < length c.args.shown.pairs.now / 4
output c =
    let pairs = c.args.shown.pairs.now in
    let first = least_first (no_code (pairs_of pairs) c.args.shown.lines.now) (length (pairs_of pairs)) c.requires in
    omega (arith, c.lowest-output.ensures, length_pairs pairs, first.below)

pub pair-on-requires : goal.pair-on-requires
pair-on-requires c = output (goal.at.pair-on-requires c).After-lowest-output

pub returns : goal.returns
returns c =
    found-by c.args.shown.pairs.now c.args.shown.lines.now c.args.input c.lowest-output.result _
    c.from.result
    (output (goal.at.returns c).After-lowest-output)
    c.lowest-output.ensures
    c.pair-on.ensures.on
    c.from.ensures
