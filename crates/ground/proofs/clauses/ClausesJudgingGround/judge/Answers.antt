use Rattle.std.proofs.Common.{sym, ◌∙◌, rules}
use Rattle.std.proofs.lemmas.Iterator.Consumers.{YieldsList-from_first}
use Rattle.std.proofs.lemmas.Iterator.Search.{any_from_yields_List}
use Rattle.game.specs.Grounds.{row_false}
use Rattle.ground.specs.Rows.{rows_left}
use Rattle.ground.proofs.Tests.{some_row_is}
use Rattle.ground.proofs.clauses.ClausesJudgingGround.judge.Goals as goal

pub returns : goal.returns
returns g c =
    let rows = (g.F.Whole.formula c.args.self.now.formula).rows in
    any_from_yields_List (row_false c.args.play.now) c.any.new.self _ _ c.any.ensures.ran (YieldsList-from_first _ (rows_left g.F.Whole.formula) rows c.of.ensures) (λ x b q k. search rules)
    ∙ sym (some_row_is (row_false c.args.play.now) rows)
