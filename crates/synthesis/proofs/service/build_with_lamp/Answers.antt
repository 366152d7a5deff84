-- `service::build_with_lamp` meets its contract: it writes the board with its lamp.
use Rattle.synthesis.specs.Service.{lamp_building_of}
use Rattle.synthesis.proofs.service.build_with_lamp.Goals as goal

pub returns : goal.returns
unfolding lamp_building_of
returns c = c.build_as.ensures
