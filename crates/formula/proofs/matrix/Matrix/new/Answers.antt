use Rattle.std.proofs.Common.{refl, arith}
use Rattle.formula.proofs.Rows.{no_marks}
use Rattle.formula.proofs.matrix.Matrix.new.Goals as goal

pub invariant_of-result : goal.invariant_of-result
invariant_of-result c = rw c.new.ensures (record { each_seen = refl; few = (omega arith, omega arith, omega arith); marks = no_marks })
