use Rattle.refusal.proofs.Back.{told_apart}
use Rattle.refusal.proofs.numbers_apart.Goals as goal

pub returns : goal.returns
returns c = told_apart
