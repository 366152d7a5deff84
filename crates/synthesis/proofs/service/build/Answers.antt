-- `service::build` meets its contract: it writes the board without a lamp.
use Rattle.synthesis.specs.Service.{building_of}
use Rattle.synthesis.proofs.service.build.Goals as goal

pub returns : goal.returns
unfolding building_of
returns c = c.build_as.ensures
