-- `cube_of` meets its contract.
use Rattle.cubes.proofs.Cubes.{cube-of}
use Rattle.cubes.proofs.cube_of.Goals as goal

pub returns : goal.returns
returns c = cube-of _ _ _ c.saturating_sub-fixed.ensures c.words_of.ensures c.pattern_of.ensures
