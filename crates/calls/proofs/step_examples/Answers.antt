use Rattle.calls.proofs.Examples.{step_examples}
use Rattle.calls.proofs.step_examples.Goals as goal

pub returns : goal.returns
returns c = step_examples
