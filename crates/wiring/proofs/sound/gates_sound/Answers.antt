-- `sound::gates_sound` meets its contract. The loop's invariant: each gate passed is sound.
use native.Mathlib.Omega.{arith}
use Prim.Native.Nat.{◌+◌, ◌/◌}
use mathlib.Core.Path.{◌≡◌, sym, ap, ◌∙◌}
use lib.ListN.{length}
use Rattle.fields.proofs.Bounded.{all_none, all_more, all-not}
use Rattle.netlist.specs.Netlist.{gate_at}
use Rattle.netlist.proofs.Chunks.{gate-chunk}
use Rattle.wiring.specs.Questions.{is_gate}
use Rattle.wiring.proofs.sound.gates_sound.Goals.{After-gate_sound}
use Rattle.wiring.proofs.sound.gates_sound.Goals as goal

pub loop-g-init : goal.loop-g-init
loop-g-init c = all_none _

-- What the gate's test says.
here : (c : After-gate_sound) → is_gate (c.args.first + c.loop-g.g) (gate_at c.args.gates.now c.loop-g.g) ≡ c.gate_sound.result
here c =
    sym (c.gate_sound.ensures
    ∙ ap (is_gate (c.args.first + c.loop-g.g)) (gate-chunk _ _ c.as_chunks.ensures.front (omega (arith, c.as_chunks.ensures.front_len))))

pub returns-then-not-gate_sound : goal.returns-then-not-gate_sound
returns-then-not-gate_sound c =
    let test = here (goal.at.returns-then-not-gate_sound c).After-gate_sound in
    sym (all-not _ _ c.loop-g.g (omega (arith, c.as_chunks.ensures.front_len)) (test ∙ c.if-not-gate_sound.true))

pub loop-g-preserved : goal.loop-g-preserved
loop-g-preserved c =
    let test = here (goal.at.loop-g-preserved c).After-gate_sound in
    all_more _ _ c.loop-g.invariant (test ∙ c.if-not-gate_sound.false)

pub returns : goal.returns
returns c =
    let done : c.loop-g.g ≡ length c.args.gates.now / 5 = omega (arith, c.as_chunks.ensures.front_len) in
    sym (rw done at c.loop-g.invariant)
