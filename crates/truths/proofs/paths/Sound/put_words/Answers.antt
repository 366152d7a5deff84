-- `Sound::put_words` meets its contract.
use native.Mathlib.Omega.{arith}
use Prim.Native.Nat.{◌<◌}
use mathlib.Core.Path.{◌∙◌}
use lib.ListN.{length, set, length-set}
use lib.Seq.{get_or-set_same, get_or-set_other}
use Rattle.bits.proofs.Bits.{ones}
use Rattle.drawing.specs.Drawing.{parted}
use Rattle.truths.proofs.Outputs.{ready_for}
use Rattle.truths.proofs.Words.{constant-words}
use Rattle.truths.proofs.paths.Sound.put_words.Goals as goal

pub loop-level-init : goal.loop-level-init
loop-level-init c =
    let s = c.args.self in
    let vs = c.args.values.now in
    let room = c.requires in
    let two : 1 < length (set vs 0 0) = simp length-set (omega arith) in
    constant-words s.parts.contacts s.parts.nodes.now (ready_for (parted s.parts) s.limited) _
    (get_or-set_other (set vs 0 0) 1 0 ones 0 (λ e. omega arith) ∙ get_or-set_same vs 0 0 0 (omega arith))
    (get_or-set_same (set vs 0 0) 1 ones 0 two)
