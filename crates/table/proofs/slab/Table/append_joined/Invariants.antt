use Rattle.table.specs.Joins.{places_left}
use Rattle.table.proofs.Appends.{Appending}
use Rattle.table.proofs.slab.Table.append_joined.Given as goal

abbrev pub invariant-loop-met : goal.invariant-loop-met
invariant-loop-met g l = Appending g.T.Keyed.key g.T.Keyed.joined l.fn.without l.fn.self l.fn.first l.fn.second l.walk l.self

abbrev pub decreases-loop-met : goal.decreases-loop-met
decreases-loop-met g l = places_left l.walk
