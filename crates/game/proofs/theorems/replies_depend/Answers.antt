use Rattle.game.proofs.Game.{dependence}
use Rattle.game.proofs.theorems.replies_depend.Goals as goal

pub returns : goal.returns
returns c = dependence
