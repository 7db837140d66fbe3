use Rattle.game.proofs.Phases.{phases_look_back}
use Rattle.game.proofs.theorems.phases_look_back.Goals as goal

pub returns : goal.returns
returns c = phases_look_back
