-- What the services step and run return, with what they leave in the two lent buffers.
use Rattle.std.specs.Prelude.{ℕ, Result, Ok, Err, List}
use Rattle.files.specs.declared.refusal.Refusal.{Refusal}
use Rattle.files.specs.Refusals.{number_in}
use Rattle.simulation.specs.Service.{Stepping, Ran}

-- The place of a result: 0 with a refusal.
abbrev pub place_in : Result ℕ Refusal → ℕ
place_in (Ok place) = place
place_in (Err r) = 0

-- A step's result, the place out or a refusal, with what the buffers hold after it, and a run's.
abbrev pub stepped : Result ℕ Refusal → List ℕ → List ℕ → Stepping
stepped result lines pairs = record { refusal = number_in result; place = place_in result; lines = lines; pairs = pairs }

abbrev pub ran : {A : Type 0} → Result A Refusal → List ℕ → List ℕ → Ran
ran result lines pairs = record { refusal = number_in result; lines = lines; pairs = pairs }
