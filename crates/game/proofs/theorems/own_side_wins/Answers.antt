use Rattle.game.proofs.Game.{own_side_wins}
use Rattle.game.proofs.theorems.own_side_wins.Goals as goal

pub returns : goal.returns
returns c = own_side_wins
