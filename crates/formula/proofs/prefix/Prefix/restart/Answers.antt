use Rattle.std.proofs.Common.{refl, arith}
use Rattle.formula.proofs.Blocks.{no_levels, marked_none}
use Rattle.formula.proofs.prefix.Prefix.restart.Goals as goal

pub invariant_of-self : goal.invariant_of-self
invariant_of-self c = rw c.clear.ensures (record { each_level = refl; few = (omega arith, omega arith, omega arith); range = refl; told = no_levels; count = marked_none 1025 })
