use Rattle.std.proofs.Common.{filter, refl}
use Rattle.table.specs.Joins.{part}
use Rattle.table.proofs.Filling.{grown_filled, longer_by}
use Rattle.table.proofs.slab.Table.append_kept.Goals as goal

pub returns-clause-passed : goal.returns-clause-passed
returns-clause-passed g c test acts =
    grown_filled c.args.self.now c.len-used.ensures (λ xs. filter test (part c.args.span xs)) c.fill_kept.ensures.front (c.fill_kept.ensures.back test acts) refl refl

pub returns-clause-longer : goal.returns-clause-longer
returns-clause-longer g c = longer_by c.args.self.now c.len-used.ensures c.fill_kept.result c.fill_kept.ensures.front c.fill_kept.ensures.rest c.fill_kept.ensures.room c.fill_kept.auto.slots refl refl
