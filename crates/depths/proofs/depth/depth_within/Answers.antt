-- `depth::depth_within` meets its contract: the scan starts with the constants and rails at depth 0, in an array that holds every line.
use native.Mathlib.Omega.{arith}
use Prim.Native.Nat.{◌+◌, ◌*◌}
use mathlib.Core.Path.{◌∙◌}
use lib.ListN.{length-replicate}
use Rattle.depths.proofs.Scans.{zeros-taken, depth-from}
use Rattle.depths.proofs.depth.depth_within.Goals as goal

pub scan-requires-clause-count_bound : goal.scan-requires-clause-count_bound
scan-requires-clause-count_bound g c =
    (omega arith, rw length-replicate (omega arith), zeros-taken (2 + 2 * c.args.n) g.row.LINES (omega arith))

pub returns : goal.returns
returns g c = c.scan.ensures ∙ depth-from c.args.gates.now c.args.n
