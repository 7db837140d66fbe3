use Rattle.std.proofs.Common.{sym, ◌∙◌, rules}
use Rattle.std.proofs.lemmas.Iterator.Consumers.{YieldsList-from_first}
use Rattle.std.proofs.lemmas.Iterator.Search.{all_from_yields_List}
use Rattle.game.specs.Grounds.{some_literal}
use Rattle.ground.specs.Rows.{rows_left}
use Rattle.ground.specs.Signs.{has_sign}
use Rattle.ground.proofs.Same.{cube_admits}
use Rattle.ground.proofs.cubes.CubesGround.admit.Goals as goal

pub returns : goal.returns
returns g c =
    let F = g.F.Whole.formula c.args.self.now.formula in
    let has = has_sign c.in-Some.signs in
    all_from_yields_List (some_literal has) c.all.new.self _ _ c.all.ensures.ran (YieldsList-from_first _ (rows_left g.F.Whole.formula) F.rows c.of.ensures) (λ x b q k. search rules)
    ∙ cube_admits F (g.F.Whole.well c.args.self.now.formula) c.args.leaf.now (sym c.in-Some.ensures.leaf) has c.in-Some.ensures.told
