use Rattle.game.proofs.Leaf.{down_to_a_leaf}
use Rattle.game.proofs.theorems.down_to_a_leaf.Goals as goal

pub returns : goal.returns
returns c = down_to_a_leaf
