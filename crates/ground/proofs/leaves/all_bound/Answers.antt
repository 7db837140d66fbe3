use Rattle.std.proofs.Common.{rules, sym, ◌∙◌}
use Rattle.std.proofs.lemmas.Iterator.{YieldsList-from_slice}
use Rattle.std.proofs.lemmas.Iterator.Search.{all_from_yields_List}
use Rattle.formula.specs.declared.letter.Literal.{Literal}
use Rattle.formula.specs.Prefix.{has_var, order}
use Rattle.ground.proofs.Bound.{owner_some_is}
use Rattle.ground.proofs.Tests.{bound_is}
use Rattle.ground.proofs.leaves.all_bound.Goals as goal

pub returns : goal.returns
returns g c =
    let vars = order (g.F.Whole.formula c.args.formula.now).blocks in
    all_from_yields_List (λ (l : Literal). has_var vars l.variable) _ _ _ c.all.ensures.ran (YieldsList-from_slice c.args.leaf.now cc) (λ x b q k. search (rules, owner_some_is))
    ∙ sym (bound_is vars c.args.leaf.now)
