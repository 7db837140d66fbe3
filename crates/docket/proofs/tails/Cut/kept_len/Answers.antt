use Rattle.std.proofs.Common.{◌+◌, ◌%◌, ◌^◌, cond, ◌∙◌, rules, arith}
use Rattle.std.proofs.lemmas.Iterator.{YieldsList-from_slice}
use Rattle.std.proofs.lemmas.Iterator.Consumers.{fold_from_yields_List}
use Rattle.game.specs.declared.record.Entry.{Entry}
use Rattle.docket.specs.Sides.{seen, stays}
use Rattle.docket.proofs.Staying.{kept_fold}
use Rattle.docket.proofs.tails.Cut.kept_len.Goals as goal

pub returns : goal.returns
returns c =
    let cut = c.args.self.now in
    let f = stays (seen cut.side) cut.ceiling in
    fold_from_yields_List _ (λ n (e : Entry). (n + cond (f e.variable) 1 0) % 2 ^ 64) 0 _ c.fold.ensures.ran
    (YieldsList-from_slice _ c.iter.ensures.rest) (λ a x b q k. search rules)
    ∙ kept_fold f c.args.marks.now (omega (arith, c.iter.ensures.bound, c.iter.ensures.len))
