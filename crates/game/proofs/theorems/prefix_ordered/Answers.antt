use Rattle.game.proofs.Prefix.{prefix_ordered}
use Rattle.game.proofs.theorems.prefix_ordered.Goals as goal

pub returns : goal.returns
returns c = prefix_ordered
