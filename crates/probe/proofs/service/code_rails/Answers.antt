-- `service::code_rails` meets its contract. The loop's invariant: the rails of the contacts before i are written.
use native.Mathlib.Omega.{arith}
use mathlib.Core.Path.{◌≡◌, refl}
use lib.ListN.{length-set}
use Rattle.rules.specs.Code.{code_rails}
use Rattle.probe.proofs.CodeRails.{code-more}
use Rattle.probe.proofs.service.code_rails.Goals as goal

pub loop-i-init : goal.loop-i-init
unfolding code_rails
loop-i-init c = record { size = refl; rails = λ n l. let e : n ≡ 0 = omega arith in rw e }

pub loop-i-preserved : goal.loop-i-preserved
loop-i-preserved c =
    let here = c.loop-i.invariant in
    record { size = simp length-set here.size; rails = code-more c.args.input c.loop-i.i _ c.loop-i.pair-items (omega arith) refl here.rails }

pub returns : goal.returns
returns c = λ n l. c.loop-i.invariant.rails n (omega arith)
