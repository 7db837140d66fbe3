use Rattle.std.proofs.Common.{◌≡◌, ℕ, drop, length, slice_index_or}
use Rattle.ground.specs.declared.signs.Sign.TheVariants.{Absent}
use Rattle.ground.proofs.LeafSigns.{over, sign_in}
use Rattle.ground.proofs.signs.Signs.of_leaf.Given as goal

-- the signs of the literals that are left, over those that are made
abbrev pub invariant-loop-literal : goal.invariant-loop-literal
invariant-loop-literal g l = record {
  size : length l.by_variable ≡ 1025;
  told : (x : ℕ) → over (sign_in (drop l.literal-index l.leaf) x) (slice_index_or l.by_variable x Absent) ≡ sign_in l.leaf x;
}
