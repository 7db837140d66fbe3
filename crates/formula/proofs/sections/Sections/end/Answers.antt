use Rattle.formula.proofs.SectionLemmas.{section_lies}
use Rattle.formula.proofs.sections.Sections.end.Goals as goal

pub invariant_of-self : goal.invariant_of-self
invariant_of-self g c =
    let s = c.self.inside in
    rw c.push.ensures (rw c.len-end.ensures.value (section_lies s.ends s.items c.self.invariant c.args.head))
