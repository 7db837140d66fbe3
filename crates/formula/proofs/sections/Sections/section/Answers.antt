use Rattle.std.proofs.Common.{Some, sym, ap, ◌∙◌, length, take, arith}
use Rattle.std.specs.List.{slice_get, slice_range}
use Rattle.std.specs.Option.{option_copied, option_map}
use Rattle.std.proofs.lemmas.Bool.Decides.{nat_tests}
use Rattle.std.proofs.lemmas.Option.{slice_get_past}
use Rattle.formula.specs.Sections.{Sections, Section, items_of}
use Rattle.formula.proofs.Looked.{got}
use Rattle.formula.proofs.SectionLemmas.{count_kept, section_kept, section_within}
use Rattle.formula.proofs.sections.Sections.section.Goals as goal

pub returns-in_err-end : goal.returns-in_err-end
returns-in_err-end g c = grind (arith, nat_tests, count_kept, slice_get_past)

pub offset_bounds-as_slice-start : goal.offset_bounds-as_slice-start
offset_bounds-as_slice-start g c =
    let s = c.self.inside in
    let there = sym (ap (λ l. slice_get l c.args.i) c.as_slice.ensures.value) ∙ sym (got c.as_slice.result.now c.args.i c.get.result c.get.ensures.lookup) ∙ ap option_copied c.in_ok-end.was in
    let start = c.start.ensures ∙ ap (λ (m : Sections g.row.H.Denot g.row.X.Denot). length (items_of (take c.args.i m.complete))) (sym c.self.view_is) in
    let within = section_within s.ends s.items c.self.invariant c.args.i c.start.result c.in_ok-end.field-0.now there start in
    omega (arith, within.0, within.1, ap length c.as_slice-2.ensures.value)

pub slice_bounds-result-count : goal.slice_bounds-result-count
slice_bounds-result-count g c =
    let s = c.self.inside in
    let there = sym (ap (λ l. slice_get l c.args.i) c.as_slice.ensures.value) ∙ sym (got c.as_slice.result.now c.args.i c.get.result c.get.ensures.lookup) ∙ ap option_copied c.in_ok-end.was in
    let start = c.start.ensures ∙ ap (λ (m : Sections g.row.H.Denot g.row.X.Denot). length (items_of (take c.args.i m.complete))) (sym c.self.view_is) in
    (section_within s.ends s.items c.self.invariant c.args.i c.start.result c.in_ok-end.field-0.now there start).0

pub slice_bounds-result-start : goal.slice_bounds-result-start
slice_bounds-result-start g c =
    let s = c.self.inside in
    let there = sym (ap (λ l. slice_get l c.args.i) c.as_slice.ensures.value) ∙ sym (got c.as_slice.result.now c.args.i c.get.result c.get.ensures.lookup) ∙ ap option_copied c.in_ok-end.was in
    let start = c.start.ensures ∙ ap (λ (m : Sections g.row.H.Denot g.row.X.Denot). length (items_of (take c.args.i m.complete))) (sym c.self.view_is) in
    let within = section_within s.ends s.items c.self.invariant c.args.i c.start.result c.in_ok-end.field-0.now there start in
    omega (arith, within.0, within.1, ap length c.as_slice-2.ensures.value)

pub slice_bounds-result-end : goal.slice_bounds-result-end
slice_bounds-result-end g c =
    let s = c.self.inside in
    let there = sym (ap (λ l. slice_get l c.args.i) c.as_slice.ensures.value) ∙ sym (got c.as_slice.result.now c.args.i c.get.result c.get.ensures.lookup) ∙ ap option_copied c.in_ok-end.was in
    let start = c.start.ensures ∙ ap (λ (m : Sections g.row.H.Denot g.row.X.Denot). length (items_of (take c.args.i m.complete))) (sym c.self.view_is) in
    let within = section_within s.ends s.items c.self.invariant c.args.i c.start.result c.in_ok-end.field-0.now there start in
    omega (arith, within.0, within.1, ap length c.as_slice-2.ensures.value)

pub returns : goal.returns
returns g c =
    let s = c.self.inside in
    let there = sym (ap (λ l. slice_get l c.args.i) c.as_slice.ensures.value) ∙ sym (got c.as_slice.result.now c.args.i c.get.result c.get.ensures.lookup) ∙ ap option_copied c.in_ok-end.was in
    let start = c.start.ensures ∙ ap (λ (m : Sections g.row.H.Denot g.row.X.Denot). length (items_of (take c.args.i m.complete))) (sym c.self.view_is) in
    ap (λ l. Some (slice_range l c.start.result c.in_ok-end.field-0.now.end)) c.as_slice-2.ensures.value
    ∙ section_kept s.ends s.items c.self.invariant c.args.i c.start.result c.in_ok-end.field-0.now there start
    ∙ ap (λ (m : Sections g.row.H.Denot g.row.X.Denot). option_map (λ (t : Section g.row.H.Denot g.row.X.Denot). t.items) (slice_get m.complete c.args.i)) c.self.view_is
