use Rattle.std.proofs.Common.{refl, arith}
use Rattle.formula.proofs.Blocks.{no_levels, marked_none}
use Rattle.formula.proofs.prefix.Prefix.new.Goals as goal

pub invariant_of-result : goal.invariant_of-result
invariant_of-result c = rw c.new.ensures (record { each_level = refl; few = (omega arith, omega arith, omega arith); range = refl; told = no_levels; count = marked_none 1025 })
