use Rattle.std.proofs.Common.{ap, ◌∙◌}
use Rattle.std.proofs.lemmas.Iterator.{YieldsList-from_slice}
use Rattle.std.proofs.lemmas.Iterator.Consumers.{YieldsList-at, YieldsList-from_copied, YieldsList-from_filter}
use Rattle.table.specs.Joins.{part}
use Rattle.table.proofs.Filling.{filled_behind, rest_behind}
use Rattle.table.proofs.slab.filling.fill_kept.Goals as goal

pub returns-clause-back : goal.returns-clause-back
returns-clause-back g c test acts =
    let parts = c.split_at_mut-entries.ensures in
    let read = c.iter.ensures.rest ∙ c.of.ensures ∙ ap (part c.args.span) parts.front in
    let come = YieldsList-from_filter g.F.FnMut test (YieldsList-at c.filter.ensures.source (YieldsList-from_copied (YieldsList-at c.copied.ensures.source (YieldsList-from_slice _ read)))) c.filter.ensures.closure acts in
    filled_behind c.args.slots.now _ c.args.used c.fill.result _ {filled = c.fill.new.slots} parts.front_len parts.back (c.fill.ensures.filled _ come.runs)

pub returns-clause-rest : goal.returns-clause-rest
returns-clause-rest g c =
    let parts = c.split_at_mut-entries.ensures in rest_behind c.args.slots.now c.args.used c.fill.result _ c.fill.new.slots parts.front_len parts.back c.fill.ensures.rest
