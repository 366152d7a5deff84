-- The first number that betrays a hold is below 2 ^ n, since a number and the code input that agrees with it have the same rails.
use Prim.Native.Nat.{ℕ, ◌^◌, ◌<◌}
use native.Mathlib.Decide.{dec_lt}
use native.Mathlib.Omega.{arith}
use mathlib.Core.Path.{◌≡◌, ap}
use mathlib.Core.Bool.{true, false}
use mathlib.Core.List.{List, [], ◌∷◌}
use mathlib.Core.Logic.{by_cases}
use Rattle.diagram.specs.Diagram.{input_of}
use Rattle.diagram.proofs.Inputs.{input_number}
use Rattle.netlist.specs.declared.Hold.{Hold}
use Rattle.netlist.specs.Netlist.{Netlist}
use Rattle.simulation.specs.Run.{values_of}
use Rattle.rules.proofs.Codes.{code_same}
use Rattle.faults.specs.Betrayal.{stuck_at, some_no_code, betrays}

pub first-within : (net : Netlist) (h : Hold) (a : ℕ) → betrays net h a ≡ true → ((b : ℕ) → b < a → betrays net h b ≡ false) →
    a < 2 ^ net.contacts
unfolding betrays stuck_at
first-within net h a e none =
    by_cases (dec_lt a (2 ^ net.contacts)) (λ l. l) (λ l.
    let (b, small, agrees) = input_number (input_of a) net.contacts in
    let same =
    ap (λ (rails : List ℕ). some_no_code net.pairs (values_of net rails (h ∷ []))) (code_same (input_of b) (input_of a) net.contacts agrees) in
    absurd (let z : ◌≡◌ {A = ℕ} 0 1 = cc (none b (omega arith)) in omega arith))
