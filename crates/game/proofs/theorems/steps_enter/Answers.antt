use Rattle.game.proofs.Steps.{steps_enter}
use Rattle.game.proofs.theorems.steps_enter.Goals as goal

pub returns : goal.returns
returns c = steps_enter
