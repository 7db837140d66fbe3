use Rattle.std.proofs.Common.{◌≡◌, drop}
use Rattle.game.specs.Leaves.{rising}
use Rattle.ground.proofs.leaves.rises.Given as goal

-- the literals that are left give the answer, after the last variable
abbrev pub invariant-loop-literal : goal.invariant-loop-literal
invariant-loop-literal l = rising l.last (drop l.literal-index l.leaf) ≡ rising 0 l.leaf
