use Rattle.game.proofs.Growth.{growth}
use Rattle.game.proofs.theorems.derivations_grow.Goals as goal

pub returns : goal.returns
returns c = growth
