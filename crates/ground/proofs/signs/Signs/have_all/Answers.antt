use Rattle.std.proofs.Common.{sym, ◌∙◌, rules}
use Rattle.std.proofs.lemmas.Iterator.{YieldsList-from_slice}
use Rattle.std.proofs.lemmas.Iterator.Search.{all_from_yields_List}
use Rattle.ground.specs.Signs.{has_sign}
use Rattle.ground.proofs.Tests.{each_is}
use Rattle.ground.proofs.signs.Signs.have_all.Goals as goal

pub returns : goal.returns
returns c =
    let has = has_sign c.args.self.now in
    all_from_yields_List has _ _ _ c.all.ensures.ran (YieldsList-from_slice c.args.row.now cc) (λ x b q k. search rules) ∙ sym (each_is has c.args.row.now)
