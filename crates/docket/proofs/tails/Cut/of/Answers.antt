use Rattle.std.proofs.Common.{max, cond, ◌∙◌, rules, tests}
use Rattle.std.proofs.lemmas.Iterator.{YieldsList-from_slice}
use Rattle.std.proofs.lemmas.Iterator.Consumers.{fold_from_yields_List}
use Rattle.game.specs.declared.record.Entry.{Entry}
use Rattle.docket.specs.Sides.{seen}
use Rattle.docket.proofs.Staying.{ceiling_fold}
use Rattle.docket.proofs.tails.Cut.of.Goals as goal

pub returns-clause-ceiling : goal.returns-clause-ceiling
returns-clause-ceiling c =
    let S = seen c.args.side in
    fold_from_yields_List _ (λ n (e : Entry). cond (S.mine e.variable) n (max n (S.level e.variable))) 0 _ c.fold-ceiling.ensures.ran
    (YieldsList-from_slice _ c.iter.ensures.rest) (λ a x b q k. search (rules, tests))
    ∙ ceiling_fold S c.args.marks.now
