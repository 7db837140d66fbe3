use Rattle.game.proofs.Grounds.{empty_record_wins}
use Rattle.game.proofs.theorems.empty_record_wins.Goals as goal

pub returns : goal.returns
returns c = empty_record_wins
