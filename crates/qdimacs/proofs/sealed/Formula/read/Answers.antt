use Rattle.std.proofs.Common.{sym, ap, ◌∙◌}
use Rattle.qdimacs.specs.Reading.{State, left_formula}
use Rattle.qdimacs.proofs.Exactly.{well_left, exact}
use Rattle.qdimacs.proofs.Stops.{stops}
use Rattle.qdimacs.proofs.sealed.Formula.read.Goals as goal

-- the seal is set only where the text was accepted
pub invariant_of-self : goal.invariant_of-self
invariant_of-self c =
    let read = c.read-read.ensures in
    record { whole = λ ok. well_left c.args.text.now c.read-read.result _ read.left read.refusal (sym c.is_ok-self.ensures.value ∙ ok) }

pub returns : goal.returns
returns c =
    let read = c.read-read.ensures in
    let left = ap (λ (s : State). left_formula s) read.left in
    record {
      exact = exact c.args.text.now c.read-read.result _ left read.refusal;
      stops = stops c.args.text.now c.read-read.result read.refusal;
      left = left;
      refusal = read.refusal;
      seal = c.is_ok-self.ensures.value;
    }
