use Rattle.std.proofs.Common.{refl, ◌∙◌, arith, length-set}
use Rattle.std.proofs.lemmas.Grind.{common_steps}
use Rattle.ground.proofs.Bound.{low_at}
use Rattle.ground.proofs.LeafSigns.{sign_in, no_signs, one_more, all_made, has_signed, rising_distinct}
use Rattle.ground.proofs.signs.Signs.of_leaf.Goals as goal

pub loop-literal-init : goal.loop-literal-init
loop-literal-init g c = record { size = refl; told = λ x. no_signs 1025 x (sign_in c.args.leaf.now x) }

pub bounds-by_variable-literal : goal.bounds-by_variable-literal
bounds-by_variable-literal g c = grind (arith, common_steps, low_at (g.F.Whole.formula c.args.formula.now) (g.F.Whole.well c.args.formula.now) c.args.leaf.now)

pub loop-literal-preserved : goal.loop-literal-preserved
loop-literal-preserved g c =
    let low = bounds-by_variable-literal g c in
    record {
      size = length-set _ _ _ ∙ c.loop-literal.invariant.size;
      told = λ x.
          rw c.of.ensures (one_more c.loop-literal.by_variable c.args.leaf.now c.loop-literal.literal-index _ x c.loop-literal-test.true (omega (arith, low, c.loop-literal.invariant.size)))
          ∙ c.loop-literal.invariant.told x;
    }

pub returns-clause-told : goal.returns-clause-told
returns-clause-told g c l =
    let leaf = c.args.leaf.now in
    grind (arith, common_steps, all_made c.loop-literal.by_variable leaf c.loop-literal.literal-index, c.loop-literal.invariant.told l.variable, has_signed leaf l, rising_distinct 0 leaf)
