use Rattle.game.proofs.Grounds.{grounds_right}
use Rattle.game.proofs.theorems.grounds_right.Goals as goal

pub returns : goal.returns
returns c = grounds_right
