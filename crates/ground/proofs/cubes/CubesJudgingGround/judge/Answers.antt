use Rattle.std.proofs.Common.{List, not, sym, ◌∙◌, rules}
use Rattle.std.proofs.lemmas.Iterator.Consumers.{YieldsList-from_first}
use Rattle.std.proofs.lemmas.Iterator.Search.{all_from_yields_List}
use Rattle.formula.specs.declared.letter.Literal.{Literal}
use Rattle.game.specs.Grounds.{row_false}
use Rattle.ground.specs.Rows.{rows_left}
use Rattle.ground.proofs.Tests.{each_row_is}
use Rattle.ground.proofs.cubes.CubesJudgingGround.judge.Goals as goal

pub returns : goal.returns
returns g c =
    let rows = (g.F.Whole.formula c.args.self.now.formula).rows in
    let stands = λ (row : List Literal). not (row_false c.args.play.now row) in
    all_from_yields_List stands c.all.new.self _ _ c.all.ensures.ran (YieldsList-from_first _ (rows_left g.F.Whole.formula) rows c.of.ensures) (λ x b q k. search rules)
    ∙ sym (each_row_is stands rows)
