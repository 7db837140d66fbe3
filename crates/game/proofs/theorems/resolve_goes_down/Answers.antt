use Rattle.game.proofs.Down.{resolve_goes_down}
use Rattle.game.proofs.theorems.resolve_goes_down.Goals as goal

pub returns : goal.returns
returns c = resolve_goes_down
