-- What a board's lines are worked out from.
use Rattle.std.specs.Prelude.{ℕ, ◌+◌, ◌/◌, ◌≤◌, ◌≡◌, true, List, length, get_or}
use Rattle.wiring.specs.Questions.{are_gates}
use Rattle.drive.specs.Questions.{are_holds}

-- Rails of 0 and 1, gates whose sources are below their own lines, sorted holds, and room.
pub record Ready (gates rails holds : List ℕ) (room : ℕ) : Type 0 where
  pub few : length rails ≤ 24
  pub many : length gates / 5 ≤ 10602
  pub fits : 2 + length rails + length gates / 5 ≤ room
  pub bits : (i : ℕ) → get_or rails i 0 ≤ 1
  pub wired : are_gates (2 + length rails) gates ≡ true
  pub sorted : are_holds (2 + length rails) (2 + length rails + length gates / 5) holds ≡ true
