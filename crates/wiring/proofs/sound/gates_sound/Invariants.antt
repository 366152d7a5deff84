-- `sound::gates_sound` meets its contract. The loop's invariant: each gate passed is sound.
use Prim.Native.Nat.{◌+◌}
use mathlib.Core.Path.{◌≡◌}
use mathlib.Core.Bool.{true}
use Rattle.fields.specs.Bounded.{all}
use Rattle.netlist.specs.Netlist.{gate_at}
use Rattle.wiring.specs.Questions.{is_gate}
use Rattle.wiring.proofs.sound.gates_sound.Given as goal

abbrev pub invariant-loop-g : goal.invariant-loop-g
invariant-loop-g l = all l.g (λ k. is_gate (l.first + k) (gate_at l.gates k)) ≡ true
