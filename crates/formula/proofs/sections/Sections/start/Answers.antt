use Rattle.std.proofs.Common.{arith}
use Rattle.std.proofs.lemmas.Grind.{common_steps}
use Rattle.formula.proofs.SectionLemmas.{count_kept}
use Rattle.formula.proofs.sections.Sections.start.Goals as goal

pub slice_bounds-last-end : goal.slice_bounds-last-end
slice_bounds-last-end g c =
    let s = c.self.inside in
    let count = count_kept s.ends s.items in
    grind (arith, common_steps)
