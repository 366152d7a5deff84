-- `sound::ask_wiring` meets its contract, by what the three tests ensure.
use Rattle.std.proofs.Common.{rules}
use Rattle.wiring.specs.Questions.{is_sound}
use Rattle.wiring.proofs.sound.ask_wiring.Goals as goal

pub returns-then-pairs_sound-2 : goal.returns-then-pairs_sound-2
unfolding is_sound
returns-then-pairs_sound-2 c = search rules

pub returns-else-gates_sound : goal.returns-else-gates_sound
unfolding is_sound
returns-else-gates_sound c = search rules
