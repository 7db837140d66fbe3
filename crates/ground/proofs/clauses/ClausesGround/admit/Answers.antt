use Rattle.std.proofs.Common.{◌&&◌, eqb, List, length, sym, ◌∙◌, rules}
use Rattle.std.proofs.lemmas.Iterator.Consumers.{YieldsList-from_first}
use Rattle.std.proofs.lemmas.Iterator.Search.{any_from_yields_List}
use Rattle.formula.specs.declared.letter.Literal.{Literal}
use Rattle.game.specs.Leaves.{each_literal}
use Rattle.ground.specs.Rows.{rows_left}
use Rattle.ground.specs.Signs.{has_sign}
use Rattle.ground.proofs.Same.{clause_admits}
use Rattle.ground.proofs.clauses.ClausesGround.admit.Goals as goal

pub returns : goal.returns
returns g c =
    let F = g.F.Whole.formula c.args.self.now.formula in
    let leaf = c.args.leaf.now in
    let has = has_sign c.in-Some.signs in
    any_from_yields_List (λ (row : List Literal). eqb (length row) (length leaf) && each_literal has row) c.any.new.self _ _ c.any.ensures.ran (YieldsList-from_first _ (rows_left g.F.Whole.formula) F.rows c.of.ensures) (λ x b q k. search rules)
    ∙ clause_admits F (g.F.Whole.well c.args.self.now.formula) leaf (sym c.in-Some.ensures.leaf) has c.in-Some.ensures.told
