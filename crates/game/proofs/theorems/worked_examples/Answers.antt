use Rattle.game.proofs.Examples.{examples}
use Rattle.game.proofs.theorems.worked_examples.Goals as goal

pub returns : goal.returns
returns c = examples
