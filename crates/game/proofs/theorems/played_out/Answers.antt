use Rattle.game.proofs.Game.{played_out}
use Rattle.game.proofs.theorems.played_out.Goals as goal

pub returns : goal.returns
returns c = played_out
