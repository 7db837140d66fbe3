use Rattle.std.proofs.Common.{arith}
use Rattle.std.proofs.lemmas.Grind.{common_steps}
use Rattle.std.proofs.lemmas.Option.{slice_get-get_or}
use Rattle.formula.proofs.SectionLemmas.{count_kept, head_kept}
use Rattle.formula.proofs.sections.Sections.head.Goals as goal

pub returns : goal.returns
returns g c =
    let s = c.self.inside in
    let kept = head_kept s.ends s.items c.args.i in
    let count = count_kept s.ends s.items in
    grind (arith, common_steps, slice_get-get_or)
