use Rattle.calls.proofs.Assured.{dockets_assured}
use Rattle.calls.proofs.dockets_assured.Goals as goal

pub returns : goal.returns
returns c = dockets_assured
