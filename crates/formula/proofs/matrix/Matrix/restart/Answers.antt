use Rattle.std.proofs.Common.{refl, arith}
use Rattle.formula.proofs.Rows.{no_marks}
use Rattle.formula.proofs.matrix.Matrix.restart.Goals as goal

pub invariant_of-self : goal.invariant_of-self
invariant_of-self c = rw c.clear.ensures (record { each_seen = refl; few = (omega arith, omega arith, omega arith); marks = no_marks })
