use Rattle.trace.proofs.Back.{told_back}
use Rattle.trace.proofs.laws.written_is_read.Goals as goal

pub returns : goal.returns
returns c = told_back
