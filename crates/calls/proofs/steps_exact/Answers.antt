use Rattle.calls.proofs.Exact.{steps_exact}
use Rattle.calls.proofs.steps_exact.Goals as goal

pub returns : goal.returns
returns c = steps_exact
