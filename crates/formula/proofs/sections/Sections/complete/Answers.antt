use Rattle.std.proofs.Common.{arith}
use Rattle.std.proofs.lemmas.Grind.{common_steps}
use Rattle.formula.proofs.SectionLemmas.{all_kept}
use Rattle.formula.proofs.sections.Sections.complete.Goals as goal

pub slice_bounds-result-end : goal.slice_bounds-result-end
slice_bounds-result-end g c =
    let s = c.self.inside in
    let all = all_kept s.ends s.items c.self.invariant in
    grind (arith, common_steps)
