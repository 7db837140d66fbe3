use Rattle.std.proofs.Common.{sym, ◌∙◌, rules}
use Rattle.std.proofs.lemmas.Iterator.{YieldsList-from_slice}
use Rattle.std.proofs.lemmas.Iterator.Search.{all_from_yields_List}
use Rattle.game.specs.Grounds.{literal_false}
use Rattle.ground.proofs.Tests.{each_is}
use Rattle.ground.proofs.plays.row_is_false.Goals as goal

pub returns : goal.returns
returns c =
    let falsified = literal_false c.args.play.now in
    all_from_yields_List falsified _ _ _ c.all.ensures.ran (YieldsList-from_slice c.args.row.now cc) (λ x b q k. search rules)
    ∙ sym (each_is falsified c.args.row.now)
