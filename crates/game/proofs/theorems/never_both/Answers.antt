use Rattle.game.proofs.NeverBoth.{never_both}
use Rattle.game.proofs.theorems.never_both.Goals as goal

pub returns : goal.returns
returns c = never_both
