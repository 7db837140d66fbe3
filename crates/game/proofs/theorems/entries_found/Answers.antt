use Rattle.game.proofs.Merge.{entries_found}
use Rattle.game.proofs.theorems.entries_found.Goals as goal

pub returns : goal.returns
returns c = entries_found
